use Rattle.std.proofs.Common.{◌-◌, ◌<◌, ◌≤◌}
use Rattle.tree_model.specs.ExtentEnds.{IsLeastIn, first_of_group}
use Rattle.tree_model.proofs.closed.least_in.Given as goal

abbrev pub invariant-extents : goal.invariant-extents
invariant-extents l = record {
  behind : l.e < l.c;
  upto : l.c ≤ l.end;
  least : IsLeastIn (first_of_group l.extents.groups.now) l.e l.c l.least;
}

abbrev pub decreases-extents : goal.decreases-extents
decreases-extents l = l.end - l.c
