use Rattle.tree_model.specs.Extents.{one_behind}
use Rattle.tree_model.proofs.ParentLemmas.{UpTo}
use Rattle.tree_model.proofs.extents.parent_at.Given as goal

abbrev pub invariant-above : goal.invariant-above
invariant-above l = UpTo l.sorted l.e l.above

abbrev pub decreases-above : goal.decreases-above
decreases-above l = one_behind l.above
