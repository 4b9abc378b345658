use Rattle.std.proofs.Common.{◌==◌, get_or, arith, w64}
use Rattle.std.specs.Int.{bit_at, trailing_zeros}
use Rattle.std.proofs.lemmas.Nat.Bits.{bit_at-trailing_zeros}
use Rattle.pattern_match.proofs.WordBits.{word_either}
use Rattle.pattern_match.proofs.LowestBits.{row_added, rows_added, still_marked, none_reached}
use Rattle.pattern_match.proofs.bits.gathered.Goals as goal

pub marks-init : goal.marks-init
marks-init c = (λ j h. h, λ k. none_reached k _)

pub bounds-table-left : goal.bounds-table-left
bounds-table-left c = let t = bit_at-trailing_zeros w64 c.marks.left (omega arith) (omega arith) in
    c.requires (trailing_zeros w64 c.marks.left) t.0 (c.marks.invariant.0 _ t.1)

pub marks-preserved : goal.marks-preserved
marks-preserved c = (
  λ j h. c.marks.invariant.0 j (still_marked c.marks.left j (omega arith) (omega arith) h),
  λ k. row_added _ (bit_at c.marks.reached k == 1) c.marks.left
      (λ j. bit_at (get_or c.args.table.now j 0) k == 1) _ (omega arith) (omega arith)
      (word_either c.marks.reached (get_or c.args.table.now (trailing_zeros w64 c.marks.left) 0) k)
      (c.marks.invariant.1 k),
)

pub returns : goal.returns
returns c = λ k. rows_added (bit_at c.marks.reached k == 1) c.marks.left
    (λ j. bit_at (get_or c.args.table.now j 0) k == 1) _ (omega arith) (c.marks.invariant.1 k)
