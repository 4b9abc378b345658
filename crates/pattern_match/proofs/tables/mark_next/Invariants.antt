use Rattle.std.proofs.Common.{◌≡◌, ◌<◌, ◌*◌, ◌==◌, ℕ, length, take}
use Rattle.std.specs.List.{list_any}
use Rattle.pattern_match.specs.States.{bit}
use Rattle.pattern_match.proofs.tables.mark_next.Given as goal

abbrev pub invariant-loop-number : goal.invariant-loop-number
invariant-loop-number l = (length l.row.items ≡ length l.fn.row.items)
    × ((k : ℕ) → k < 64 * length l.fn.row.items → bit l.row.items k ≡ list_any (λ n. n == k)
    (take l.number-index l.number-items))
