use Rattle.std.proofs.Common.{◌≤◌, length}
use Rattle.tree_model.specs.Counted.{AreClosedFrom, names_flags}
use Rattle.tree_model.specs.LiveLists.{IsDead}
use Rattle.tree_model.proofs.counted.clear_lacking.Given as goal

abbrev pub invariant-entries : goal.invariant-entries
invariant-entries l = record {
  upto : l.e ≤ length l.sorted;
  next : IsDead (names_flags l.sorted) l.e l.next;
  closed : AreClosedFrom l.sorted l.e l.closed.items;
}

abbrev pub decreases-entries : goal.decreases-entries
decreases-entries l = l.e
