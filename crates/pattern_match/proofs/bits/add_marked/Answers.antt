use Rattle.std.proofs.Common.{◌≡◌, ◌+◌, ◌*◌, length, arith, w64, subst}
use Rattle.std.specs.Prelude.{◌||◌}
use Rattle.std.specs.Int.{trailing_zeros}
use Rattle.pattern_match.specs.States.{bit}
use Rattle.pattern_match.proofs.LowestBits.{row_added, rows_added, still_marked}
use Rattle.pattern_match.proofs.Sweeps.{lowest_row}
use Rattle.pattern_match.proofs.bits.add_marked.Goals as goal

pub overflow_mul-row : goal.overflow_mul-row
overflow_mul-row c =
    let r = lowest_row c.marks.left c.args.i (length c.args.to.now) (length c.args.table.now)
    (omega arith) (omega arith) (omega arith)
    (λ j l b. c.requires.rows j l (c.marks.invariant.1 j b)) in
    omega arith

pub overflow_add-row : goal.overflow_add-row
overflow_add-row c =
    let r = lowest_row c.marks.left c.args.i (length c.args.to.now) (length c.args.table.now)
    (omega arith) (omega arith) (omega arith)
    (λ j l b. c.requires.rows j l (c.marks.invariant.1 j b)) in
    omega arith

pub overflow_mul-row-in-marks : goal.overflow_mul-row-in-marks
overflow_mul-row-in-marks c =
    let r = lowest_row c.marks.left c.args.i (length c.args.to.now) (length c.args.table.now)
    (omega arith) (omega arith) (omega arith)
    (λ j l b. c.requires.rows j l (c.marks.invariant.1 j b)) in
    let e : length c.marks.to ≡ length c.args.to.now = c.marks.invariant.0 in
    rw e (omega arith)

pub add_row-requires : goal.add_row-requires
add_row-requires c =
    let r = lowest_row c.marks.left c.args.i (length c.args.to.now) (length c.args.table.now)
    (omega arith) (omega arith) (omega arith)
    (λ j l b. c.requires.rows j l (c.marks.invariant.1 j b)) in
    let e : length c.marks.to ≡ length c.args.to.now = c.marks.invariant.0 in
    rw e (omega arith)

pub marks-preserved : goal.marks-preserved
marks-preserved c =
    let e : length c.marks.to ≡ length c.args.to.now = c.marks.invariant.0 in (
      omega arith,
      λ j h. c.marks.invariant.1 j (still_marked c.marks.left j (omega arith) (omega arith) h),
      λ k l. row_added (bit c.add_row.new.to k) (bit c.marks.to k) c.marks.left
          (λ j. bit c.args.table.now (64 * ((64 * c.args.i + j) * length c.args.to.now) + k))
          _ (omega arith) (omega arith)
          (subst (λ n. bit c.add_row.new.to k
          ≡ (bit c.marks.to k || bit c.args.table.now
          (64 * ((64 * c.args.i + trailing_zeros w64 c.marks.left) * n) + k))) e
          (c.add_row.ensures.bits k (omega arith))) (c.marks.invariant.2 k l),
    )

pub returns-clause-bits : goal.returns-clause-bits
returns-clause-bits c = λ k l. rows_added (bit c.marks.to k) c.marks.left
    (λ j. bit c.args.table.now (64 * ((64 * c.args.i + j) * length c.args.to.now) + k)) _
    (omega arith) (c.marks.invariant.2 k l)
