use Rattle.std.proofs.Common.{◌≡◌, ◌∙◌, ap, sym, length, ◌∷◌, [], arith}
use Rattle.tree_model.specs.Jobs.{children_from}
use Rattle.tree_model.proofs.HeldLemmas.{here_known, here_more, here_none, here_placed}
use Rattle.tree_model.proofs.job_entries.JobEntriesIterator.next.Goals as goal

pub behind-self-inside-requires : goal.behind-self-inside-requires
behind-self-inside-requires c =
    let s = c.self.inside in
    here_known s.tree.now c.rises.ensures s.job s.next s.end c.self.invariant c.in-Some.e
    (sym c.before_end.ensures ∙ c.in-Some.is)

pub invariant_of-self : goal.invariant_of-self
invariant_of-self c =
    let s = c.self.inside in
    here_placed s.tree.now c.rises.ensures s.job s.next s.end c.self.invariant c.in-Some.e
    c.behind-self-inside.result (sym c.before_end.ensures ∙ c.in-Some.is)
    c.behind-self-inside.ensures

pub returns-in-Some-clause-steps : goal.returns-in-Some-clause-steps
returns-in-Some-clause-steps c =
    let s = c.self.inside in
    sym c.self.view_is
    ∙ here_more s.tree.now c.rises.ensures s.job s.next s.end c.self.invariant c.in-Some.e
    c.behind-self-inside.result (sym c.before_end.ensures ∙ c.in-Some.is)
    c.behind-self-inside.ensures

pub returns-in-Some-clause-goes : goal.returns-in-Some-clause-goes
returns-in-Some-clause-goes c =
    let s = c.self.inside in
    let steps : c.args.self.now ≡ c.in-Some.e ∷ children_from s.tree.now s.job
    c.behind-self-inside.result =
    sym c.self.view_is
    ∙ here_more s.tree.now c.rises.ensures s.job s.next s.end c.self.invariant c.in-Some.e
    c.behind-self-inside.result (sym c.before_end.ensures ∙ c.in-Some.is)
    c.behind-self-inside.ensures in
    record { on = λ f. (tt, tt, omega (arith, ap length steps)); keeps = tt; rests = λ f. tt }

pub returns-in-None-clause-steps : goal.returns-in-None-clause-steps
returns-in-None-clause-steps c =
    let s = c.self.inside in
    let nothing : c.args.self.now ≡ [] =
    sym c.self.view_is ∙ here_none s.tree.now c.rises.ensures s.job s.next s.end c.self.invariant
    (sym c.before_end.ensures ∙ c.in-None.is) in
    (nothing, nothing)
