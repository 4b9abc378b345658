use Rattle.std.proofs.Common.{◌≡◌, length}
use Rattle.std.specs.Prelude.{slice_get}
use Rattle.pattern_match.specs.Tables.{leads}
use Rattle.pattern_match.proofs.Rows.{IsTable}
use Rattle.pattern_match.proofs.tables.follow_table.Given as goal

abbrev pub invariant-loop-position : goal.invariant-loop-position
invariant-loop-position l = (length l.row.items ≡ l.width)
    × IsTable l.table.items l.width (λ p k. leads (slice_get l.positions p) k) l.position-index
