use Rattle.std.proofs.Common.{◌≡◌, ℕ, get_or, length}
use Rattle.std.specs.Prelude.{◌||◌, ◌&&◌}
use Rattle.std.specs.Int.{bit_at}
use Rattle.pattern_match.specs.Segments.{in_word}
use Rattle.pattern_match.proofs.segment.link.Given as goal

abbrev pub invariant-places : goal.invariant-places
invariant-places l =
    (length l.rows.items ≡ length l.fn.rows.items)
    × ((j : ℕ) → bit_at l.left j ≡ 1 → bit_at l.last j ≡ 1)
    × ((p k : ℕ) → (in_word (get_or l.rows.items p 0) k || (in_word l.left p && in_word l.first k))
    ≡ (in_word (get_or l.fn.rows.items p 0) k || (in_word l.last p && in_word l.first k)))

abbrev pub decreases-places : goal.decreases-places
decreases-places l = l.left
