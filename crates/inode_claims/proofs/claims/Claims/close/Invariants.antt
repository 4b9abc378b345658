use Rattle.std.proofs.Common.{◌≡◌, ℕ, suc, ◌<◌, ◌≤◌, get_or, length, vec_capacity}
use Rattle.std.specs.Slots.{slots_items}
use Rattle.inode_claims.proofs.claims.Claims.close.Given as goal

abbrev pub invariant-loop-group : goal.invariant-loop-group
invariant-loop-group l = (length l.room.items ≡ l.group) × (l.groups ≤ vec_capacity l.room)
    × ((k : ℕ) → k < l.group → get_or l.room.items k 0 ≡ get_or (slots_items l.closed.words) (suc k)
    0)
