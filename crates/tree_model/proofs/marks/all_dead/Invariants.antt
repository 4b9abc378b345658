use Rattle.std.proofs.Common.{◌≤◌, length}
use Rattle.tree_model.specs.LiveLists.{AreDead, IsDead}
use Rattle.tree_model.proofs.marks.all_dead.Given as goal

abbrev pub invariant-entries : goal.invariant-entries
invariant-entries l = record {
  upto : l.place ≤ length l.dead.items;
  next : IsDead l.live l.place l.next;
  dead : AreDead l.live l.place l.dead.items;
}

abbrev pub decreases-entries : goal.decreases-entries
decreases-entries l = l.place
