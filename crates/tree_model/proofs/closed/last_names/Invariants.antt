use Rattle.std.proofs.Common.{◌≡◌, length}
use Rattle.tree_model.specs.ExtentEnds.{AreLasts}
use Rattle.tree_model.proofs.closed.last_names.Given as goal

abbrev pub invariant-entries : goal.invariant-entries
invariant-entries l = record {
  count : length l.last.items ≡ l.count;
  last : AreLasts l.groups l.e l.last.items;
}
