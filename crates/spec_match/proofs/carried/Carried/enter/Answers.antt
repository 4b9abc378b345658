use Rattle.std.proofs.Common.{◌∷◌, ◌++◌, [], false, subst, sym}
use Rattle.spec_match.specs.Carrying.{Carrying, IsCarriedOf, StandsAt}
use Rattle.spec_match.proofs.ScratchLemmas.{carried_by, carried_of, stands_by, stands_of}
use Rattle.spec_match.proofs.carried.Carried.enter.Goals as goal

pub enter-requires : goal.enter-requires
enter-requires c =
    let own = subst (IsCarriedOf c.args.rules.now) (sym c.self.view_is) c.requires in
    rw c.as_slice.ensures.value
    (carried_by c.rules.inside.rules.items c.args.rules.now c.rules.view_is
    (record { alive = c.self.inside.alive; is_root = c.self.inside.is_root }) own)

pub returns-clause-own : goal.returns-clause-own
returns-clause-own c =
    carried_of c.rules.inside.rules.items c.args.rules.now c.rules.view_is
    (record { alive = c.in_ok-enter.field-0; is_root = false })
    (rw c.as_slice.ensures.value at c.in_ok-enter.ensures.own)

pub returns-clause-stands : goal.returns-clause-stands
returns-clause-stands c = λ path at.
    let rules = c.rules.inside.rules.items in
    let here = stands_by rules c.args.rules.now c.rules.view_is
    (record { alive = c.self.inside.alive; is_root = c.self.inside.is_root }) path
    (subst (λ (w : Carrying). StandsAt c.args.rules.now w path) (sym c.self.view_is) at) in
    stands_of rules c.args.rules.now c.rules.view_is
    (record { alive = c.in_ok-enter.field-0; is_root = false }) (path ++ c.args.name.now ∷ [])
    ((rw c.as_slice.ensures.value at c.in_ok-enter.ensures.alive) path here)
