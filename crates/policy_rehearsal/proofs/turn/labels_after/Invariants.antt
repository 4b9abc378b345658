use Rattle.std.proofs.Common.{◌≡◌}
use Rattle.std.specs.Prelude.{map}
use Rattle.label_base.specs.Bounded.{all_numbers}
use Rattle.label_rules.specs.LabelAfter.{label_seen}
use Rattle.relabel_core.specs.Walk.{new_label}
use Rattle.policy_rehearsal.specs.Seen.{walk_seen}
use Rattle.policy_rehearsal.proofs.turn.labels_after.Given as goal

-- the labels of the groups so far
abbrev pub invariant-groups : goal.invariant-groups
invariant-groups l =
    map label_seen l.labels ≡ map (new_label (walk_seen l.seen)) (all_numbers l.g)
