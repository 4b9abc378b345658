use Rattle.std.proofs.Common.{length, ◌-◌}
use Rattle.tree_model.specs.Extents.{EndsFrom}
use Rattle.tree_model.proofs.extents.all_ends.Given as goal

abbrev pub invariant-entries : goal.invariant-entries
invariant-entries l = EndsFrom (length l.sorted - l.i) l.sorted l.ends.items
