use Rattle.tree_model.specs.Extents.{ParentsTo}
use Rattle.tree_model.proofs.extents.all_parents.Given as goal

abbrev pub invariant-entries : goal.invariant-entries
invariant-entries l = ParentsTo l.e l.sorted l.parents.items
