use Rattle.std.proofs.Common.{◌≡◌}
use Rattle.std.specs.Prelude.{map}
use Rattle.label_base.specs.Bounded.{all_numbers}
use Rattle.relabel_core.specs.Answer.{walk_in}
use Rattle.relabel_core.specs.Walk.{new_label}
use Rattle.relabel_core.proofs.next.next_labels.Given as goal

-- the labels of the groups so far
abbrev pub invariant-groups : goal.invariant-groups
invariant-groups l = l.labels ≡ map (new_label (walk_in l.walked)) (all_numbers l.g)
