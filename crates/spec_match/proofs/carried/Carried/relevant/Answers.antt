use Rattle.std.proofs.Common.{◌≡◌, subst, sym}
use Rattle.spec_match.specs.Carrying.{Carrying, IsCarriedOf, StandsAt}
use Rattle.spec_match.specs.Relevant.{relevant_at}
use Rattle.spec_match.proofs.ScratchLemmas.{carried_by, stands_by}
use Rattle.spec_match.proofs.carried.Carried.relevant.Goals as goal

pub relevant_members-requires-clause-own : goal.relevant_members-requires-clause-own
relevant_members-requires-clause-own c =
    let own = subst (IsCarriedOf c.args.rules.now) (sym c.self.view_is) c.requires in
    rw c.as_slice-rules.ensures.value
    (carried_by c.rules.inside.rules.items c.args.rules.now c.rules.view_is
    (record { alive = c.self.inside.alive; is_root = c.self.inside.is_root }) own)

pub returns : goal.returns
returns c = λ path at.
    let here = stands_by c.rules.inside.rules.items c.args.rules.now c.rules.view_is
    (record { alive = c.self.inside.alive; is_root = c.self.inside.is_root }) path
    (subst (λ (w : Carrying). StandsAt c.args.rules.now w path) (sym c.self.view_is) at) in
    let answer = (rw c.as_slice-rules.ensures.value at c.in_ok-found.ensures) path here in
    subst (λ ss. c.in_ok-found.found.items ≡ relevant_at path ss) c.rules.view_is answer
