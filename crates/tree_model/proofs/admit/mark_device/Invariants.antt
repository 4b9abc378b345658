use Rattle.std.proofs.Common.{◌≡◌, ◌-◌, ◌≤◌, length}
use Rattle.tree_model.specs.Extents.{entry_at}
use Rattle.tree_model.specs.LiveLists.{IsMarkedTo}
use Rattle.tree_model.proofs.admit.mark_device.Given as goal

abbrev pub invariant-entries : goal.invariant-entries
invariant-entries l = record {
  from : l.o ≤ l.c;
  upto : l.c ≤ l.end;
  flags : length l.live.items ≡ length l.fn.live.items;
  marked : IsMarkedTo l.ends (λ e. (entry_at l.sorted e).device) l.o l.c l.fn.live.items
      l.live.items;
}

abbrev pub decreases-entries : goal.decreases-entries
decreases-entries l = l.end - l.c
