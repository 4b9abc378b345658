use Rattle.std.proofs.Common.{◌≡◌, ◌∙◌, ◌*◌, ◌<◌, ℕ, length, Some}
use Rattle.std.specs.Prelude.{slice_get}
use Rattle.pattern_match.specs.States.{bit}
use Rattle.pattern_match.specs.Tables.{leads}
use Rattle.pattern_match.proofs.Rows.{table_more, get_read}
use Rattle.pattern_match.proofs.tables.follow_table.Goals as goal

pub loop-position-preserved : goal.loop-position-preserved
loop-position-preserved c =
    let w : length c.mark_next.new.row.items ≡ c.args.width = c.mark_next.ensures.words
    ∙ c.loop-position.invariant.0 in
    let g : slice_get c.args.positions.now c.loop-position.position-index
    ≡ Some c.position-item.result = get_read c.args.positions.now c.loop-position.position-index
    c.position-item.result c.loop-position-test.true c.position-item.is in
    let b : (k : ℕ) → k < 64 * c.args.width → bit c.mark_next.new.row.items k
    ≡ leads (slice_get c.args.positions.now c.loop-position.position-index) k =
    λ k l. rw g (c.mark_next.ensures.bits k (rw c.loop-position.invariant.0 l)) in (
      w,
      table_more c.loop-position.table.items c.mark_next.new.row.items
          c.extend_from_slice.new.self.items c.args.width
          (λ p k. leads (slice_get c.args.positions.now p) k) c.loop-position.position-index
          c.loop-position.invariant.1 w b
          (rw c.as_slice.ensures.value at c.in_ok-extend_from_slice.ensures.items),
    )
