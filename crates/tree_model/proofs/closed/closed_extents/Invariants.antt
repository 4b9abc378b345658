use Rattle.std.proofs.Common.{◌≤◌, length}
use Rattle.tree_model.specs.ExtentEnds.{AreClosed, AreHigh, AreLow}
use Rattle.tree_model.proofs.closed.closed_extents.Given as goal

abbrev pub invariant-entries : goal.invariant-entries
invariant-entries l = record {
  upto : l.place ≤ length l.extents.groups.now;
  low : AreLow l.extents.groups.now l.extents.ends.now l.place l.so_far.low.items;
  high : AreHigh l.extents.groups.now l.extents.ends.now l.place l.so_far.high.items;
  closed : AreClosed l.extents.groups.now l.extents.ends.now l.place l.so_far.closed.items;
}

abbrev pub decreases-entries : goal.decreases-entries
decreases-entries l = l.place
