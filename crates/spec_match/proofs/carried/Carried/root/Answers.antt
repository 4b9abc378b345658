use Rattle.std.proofs.Common.{[], true, refl}
use Rattle.spec_match.proofs.ScratchLemmas.{carried_of, stands_of}
use Rattle.spec_match.proofs.carried.Carried.root.Goals as goal

pub returns-clause-own : goal.returns-clause-own
returns-clause-own c =
    carried_of c.rules.inside.rules.items c.args.rules.now c.rules.view_is
    (record { alive = c.in_ok-go_on.field-0; is_root = true })
    (rw c.as_slice-2.ensures.value at c.in_ok-go_on.ensures.own)

pub returns-clause-stands : goal.returns-clause-stands
returns-clause-stands c =
    let all = rw c.as_slice.ensures.value at c.in_ok-all.ensures.alive in
    let leads = rw c.as_slice-2.ensures.value at c.in_ok-go_on.ensures.leads in
    stands_of c.rules.inside.rules.items c.args.rules.now c.rules.view_is
    (record { alive = c.in_ok-go_on.field-0; is_root = true }) [] (refl, leads [] all)
