-- What an audit finds.
use Rattle.std.specs.Prelude.{ℕ, List, Option, Some, None}
use Rattle.file_paths.specs.Path.{Path}
use Rattle.run_faults.specs.declared.finding.Finding.{Finding}
use Rattle.run_faults.specs.declared.finding.Finding.TheVariants.{Agrees, InReport, InDump}
use Rattle.run_faults.specs.declared.finding.Piece.{Piece}
use Rattle.relabel_core.specs.Walk.{Walk}
use Rattle.label_audit.specs.Pieces.{differing, differing_in, dump_pieces, report_pieces}

-- the report comes before the dump
abbrev pub finding_by : (in_report in_dump : Option Piece) → Finding
finding_by (Some piece) in_dump = InReport piece
finding_by None (Some piece) = InDump piece
finding_by None None = Agrees

-- the first piece of the report that doesn't stand, else that of the dump, of a walk with these
-- operands, of which those with the indices `absent` have no entry
unfoldable pub finding_of : Walk → List Path → (absent : List ℕ) → (report : List ℕ)
    → (dump : Option (List ℕ)) → Finding
finding_of w operands absent report dump =
    finding_by (differing (report_pieces w operands absent) report)
    (differing_in (dump_pieces w) dump)
