use Rattle.std.proofs.Common.{◌≡◌, ◌∙◌, subst, sym, List, ℕ, false}
use Rattle.pattern_match.specs.States.{is_bare}
use Rattle.pattern_match.proofs.Stepping.{IsAny}
use Rattle.pattern_match.proofs.Ready.{ready_by, any_behind, behind_any, bare_left}
use Rattle.pattern_match.proofs.machine.Machine.alive.Goals as goal

pub returns-then-tables-clause-from : goal.returns-then-tables-clause-from
returns-then-tables-clause-from c =
    let r = ready_by c.self.inside c.args.self.now c.self.view_is c.self.invariant in
    λ _. bare_left c.args.self.now c.args.marks.now.marks (sym r.bare_is ∙ c.if-tables.true)

pub returns-clause-onto : goal.returns-clause-onto
returns-clause-onto c =
    let r = ready_by c.self.inside c.args.self.now c.self.view_is c.self.invariant in
    let b : is_bare c.args.self.now ≡ false = sym r.bare_is ∙ c.if-tables.false in
    let a : IsAny c.args.marks.now.marks c.have_any.result =
    subst (λ (w : List ℕ). IsAny w c.have_any.result) c.as_slice.ensures
    (record { onto = c.have_any.ensures.onto; from = c.have_any.ensures.from }) in
    behind_any c.args.self.now c.args.marks.now.marks c.have_any.result b a

pub returns-clause-from : goal.returns-clause-from
returns-clause-from c =
    let r = ready_by c.self.inside c.args.self.now c.self.view_is c.self.invariant in
    let b : is_bare c.args.self.now ≡ false = sym r.bare_is ∙ c.if-tables.false in
    let a : IsAny c.args.marks.now.marks c.have_any.result =
    subst (λ (w : List ℕ). IsAny w c.have_any.result) c.as_slice.ensures
    (record { onto = c.have_any.ensures.onto; from = c.have_any.ensures.from }) in
    any_behind c.args.self.now c.args.marks.now.marks c.have_any.result b c.requires a
