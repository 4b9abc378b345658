use Rattle.std.proofs.Common.{◌≡◌, length}
use Rattle.std.specs.Prelude.{slice_get}
use Rattle.pattern_match.specs.Tables.{ends}
use Rattle.pattern_match.proofs.Rows.{IsMarked}
use Rattle.pattern_match.proofs.tables.mark_last.Given as goal

abbrev pub invariant-loop-i : goal.invariant-loop-i
invariant-loop-i l = (length l.row.items ≡ length l.fn.row.items)
    × IsMarked l.row.items (length l.fn.row.items) (λ k. ends (slice_get l.positions k)) l.i
