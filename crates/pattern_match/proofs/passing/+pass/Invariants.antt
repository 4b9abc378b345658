use Rattle.std.proofs.Common.{◌≡◌, ◌+◌, ◌-◌, ◌*◌, ◌<◌, ◌≤◌, ℕ, length}
use Rattle.std.specs.Prelude.{◌||◌}
use Rattle.pattern_syntax.specs.Shape.{tree_size}
use Rattle.pattern_match.specs.Passes.{copies_end, copies_move, ends_marked, holds_nothing}
use Rattle.pattern_match.specs.Passes.{moves_to}
use Rattle.pattern_match.specs.States.{bit}
use Rattle.pattern_match.proofs.passing.+pass.Given as goal

abbrev pub decreases-pass : goal.decreases-pass
decreases-pass l = 4 * tree_size l.part.now

abbrev pub decreases-pass_both : goal.decreases-pass_both
decreases-pass_both l = 4 * tree_size l.first.now + 4 * tree_size l.second.now + 1

abbrev pub decreases-pass_either : goal.decreases-pass_either
decreases-pass_either l = 4 * tree_size l.left.now + 4 * tree_size l.right.now + 1

abbrev pub decreases-pass_copies : goal.decreases-pass_copies
decreases-pass_copies l = 4 * tree_size l.piece.now + 3

abbrev pub decreases-pass_copy : goal.decreases-pass_copy
decreases-pass_copy l = 4 * tree_size l.piece.now + 2

abbrev pub decreases-is_entered : goal.decreases-is_entered
decreases-is_entered l = 4 * tree_size l.piece.now + 1

-- what is marked so far, and what the copies that are left lead to; and so with the end
abbrev pub invariant-pass_copies-copies : goal.invariant-pass_copies-copies
invariant-pass_copies-copies l = record {
  words : length l.to ≡ length l.fn.to;
  within : l.copy ≤ l.copies.times;
  bits : (q : ℕ) → q < 64 * length l.fn.to
      → (bit l.to q || copies_move (λ from. ends_marked (bit l.step.from.now) l.piece from)
      (λ enters from. moves_to l.step.entry (bit l.step.from.now) q l.piece enters from)
      l.copies.size l.copies.is_endless (l.copies.times - l.copy) l.entered
      (l.copies.start + l.copies.size * l.copy))
      ≡ (bit l.fn.to q || copies_move (λ from. ends_marked (bit l.step.from.now) l.piece from)
      (λ enters from. moves_to l.step.entry (bit l.step.from.now) q l.piece enters from)
      l.copies.size l.copies.is_endless l.copies.times l.fn.entered l.copies.start);
  ends : (l.ends || copies_end (λ from. ends_marked (bit l.step.from.now) l.piece from)
      l.copies.size (holds_nothing l.piece) (l.copies.needed - l.copy)
      (l.copies.times - l.copy) (l.copies.start + l.copies.size * l.copy))
      ≡ copies_end (λ from. ends_marked (bit l.step.from.now) l.piece from) l.copies.size
      (holds_nothing l.piece) l.copies.needed l.copies.times l.copies.start;
}

abbrev pub decreases-pass_copies-copies : goal.decreases-pass_copies-copies
decreases-pass_copies-copies l = l.copies.times - l.copy
