use Rattle.std.proofs.Common.{◌≡◌, ◌≤◌, length}
use Rattle.tree_model.specs.GroupLists.{AreGroupHeads, AreNext}
use Rattle.tree_model.proofs.groups.make_chains.Given as goal

abbrev pub invariant-entries : goal.invariant-entries
invariant-entries l = record {
  count : length l.first.items ≡ l.count;
  below : l.place ≤ length l.groups;
  first : AreGroupHeads l.groups l.place l.first.items;
  next : AreNext l.groups l.place l.next.items;
}

abbrev pub decreases-entries : goal.decreases-entries
decreases-entries l = l.place
