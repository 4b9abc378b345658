use Rattle.std.proofs.Common.{◌≡◌}
use Rattle.std.specs.Prelude.{map}
use Rattle.label_base.specs.Bounded.{all_numbers}
use Rattle.tree_model.specs.Groups.{label_in}
use Rattle.label_rules.specs.LabelAfter.{label_seen}
use Rattle.policy_rehearsal.proofs.groups.first_labels.Given as goal

-- the labels of the groups so far
abbrev pub invariant-groups : goal.invariant-groups
invariant-groups l = map label_seen l.labels ≡ map (label_in l.tree) (all_numbers l.g)
