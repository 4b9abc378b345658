use Rattle.std.proofs.Common.{◌≡◌, ◌∙◌, ap, sym, length, ◌∷◌, [], arith}
use Rattle.std.specs.Prelude.{Some, None}
use Rattle.label_base.specs.Bounded.{greater}
use Rattle.stem_index.specs.Stems.{candidates_below}
use Rattle.stem_index.proofs.StemLemmas.{none_left, one_left, within}
use Rattle.stem_index.proofs.candidates.CandidatesIterator.next.Goals as goal

pub heads_below-free-requires : goal.heads_below-free-requires
heads_below-free-requires c =
    let s = c.self.inside in
    let shown : greater s.free s.own ≡ Some c.in-Some.greatest = sym c.greater.ensures
    ∙ c.in-Some.is in
    let low = within s.index.now s.name.now s.bound s.free s.own c.self.invariant c.in-Some.greatest
    shown in
    omega (arith, low, c.self.invariant.within)

pub returns-in-Some-clause-steps : goal.returns-in-Some-clause-steps
returns-in-Some-clause-steps c =
    let s = c.self.inside in
    let shown : greater s.free s.own ≡ Some c.in-Some.greatest = sym c.greater.ensures
    ∙ c.in-Some.is in
    sym c.self.view_is ∙ one_left s.index.now s.name.now s.bound s.free s.own c.self.invariant
    c.in-Some.greatest shown

pub returns-in-Some-clause-goes : goal.returns-in-Some-clause-goes
returns-in-Some-clause-goes c =
    let s = c.self.inside in
    let shown : greater s.free s.own ≡ Some c.in-Some.greatest = sym c.greater.ensures
    ∙ c.in-Some.is in
    let steps : c.args.self.now ≡ c.in-Some.greatest ∷ candidates_below s.index.now
    c.in-Some.greatest s.name.now =
    sym c.self.view_is ∙ one_left s.index.now s.name.now s.bound s.free s.own c.self.invariant
    c.in-Some.greatest shown in
    record { on = λ f. (tt, tt, omega (arith, ap length steps)); keeps = tt; rests = λ f. tt }

pub returns-in-None-clause-steps : goal.returns-in-None-clause-steps
returns-in-None-clause-steps c =
    let s = c.self.inside in
    let shown : greater s.free s.own ≡ None = sym c.greater.ensures ∙ c.in-None.is in
    let nothing : c.args.self.now ≡ [] = sym c.self.view_is
    ∙ none_left s.index.now s.name.now s.bound s.free s.own c.self.invariant shown in
    (nothing, nothing)
