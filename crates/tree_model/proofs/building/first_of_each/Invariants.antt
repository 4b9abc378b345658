use Rattle.std.proofs.Common.{drop}
use Rattle.tree_model.proofs.DoubledSoFar.{Passing}
use Rattle.tree_model.proofs.building.first_of_each.Given as goal

abbrev pub invariant-records : goal.invariant-records
invariant-records l = Passing l.places.items l.head l.doubled (drop l.x-index l.rest) l.sorted
