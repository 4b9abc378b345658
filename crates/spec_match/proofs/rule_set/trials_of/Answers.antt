use Rattle.std.proofs.Common.{subst, sym}
use Rattle.pattern_match.specs.States.{HasRoomFor}
use Rattle.spec_match.proofs.ScratchLemmas.{room_all}
use Rattle.spec_match.proofs.rule_set.trials_of.Goals as goal

pub returns : goal.returns
returns c = room_all c.args.rules.now c.in_ok-states.states (λ i l rule e.
    subst (HasRoomFor rule.spec.pattern) (sym c.in_ok-states.ensures.room)
    (c.widest.ensures i l rule e))
