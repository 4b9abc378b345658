use Rattle.std.proofs.Common.{◌≡◌, ◌≤◌, ◌<◌, ℕ, true, false, length, get_or}
use Rattle.tree_model.proofs.marks.behind_dead.Given as goal

abbrev pub invariant-places : goal.invariant-places
invariant-places l = record {
  upto : l.place ≤ length l.live;
  lives : (k : ℕ) → l.place ≤ k → k < length l.live → get_or l.live k false ≡ true;
}

abbrev pub decreases-places : goal.decreases-places
decreases-places l = l.place
