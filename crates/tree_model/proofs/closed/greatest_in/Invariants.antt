use Rattle.std.proofs.Common.{◌-◌, ◌<◌, ◌≤◌}
use Rattle.tree_model.specs.ExtentEnds.{IsGreatestIn, last_name}
use Rattle.tree_model.proofs.closed.greatest_in.Given as goal

abbrev pub invariant-extents : goal.invariant-extents
invariant-extents l = record {
  behind : l.e < l.c;
  upto : l.c ≤ l.end;
  greatest : IsGreatestIn (last_name l.extents.groups.now) l.e l.c l.greatest;
}

abbrev pub decreases-extents : goal.decreases-extents
decreases-extents l = l.end - l.c
