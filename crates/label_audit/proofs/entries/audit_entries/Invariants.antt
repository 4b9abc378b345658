use Rattle.std.proofs.Common.{◌≡◌, ◌++◌, List, drop}
use Rattle.relabel_core.specs.Report.{AreRaised}
use Rattle.relabel_core.specs.Swept.{SkipEndsAt}
use Rattle.relabel_core.specs.Walked.{walk_of}
use Rattle.label_audit.specs.Ahead.{IsAhead}
use Rattle.label_audit.specs.Compared.{next_behind, behind_of}
use Rattle.label_audit.specs.Looking.{AreReady}
use Rattle.label_audit.specs.Pieces.{PlacedPiece, dump_pieces, entry_pieces}
use Rattle.label_audit.proofs.entries.audit_entries.Given as goal

-- the pieces left, behind those that were compared
abbrev pub invariant-entries : goal.invariant-entries
invariant-entries l = record {
  ready : AreReady (walk_of l.input) l.audit.lookups;
  covers : SkipEndsAt (walk_of l.input) l.entry l.end;
  ahead : IsAhead (walk_of l.input) l.entry l.audit.ahead;
  flags : AreRaised (walk_of l.input) l.entry l.audit.flags.items;
  report : (rest : List PlacedPiece)
      → next_behind l.audit.report.file (drop l.entry (entry_pieces (walk_of l.input)) ++ rest)
      ≡ next_behind l.initial.audit.report.file (entry_pieces (walk_of l.input) ++ rest);
  dump : (rest : List PlacedPiece)
      → behind_of l.audit.dump (drop l.entry (dump_pieces (walk_of l.input)) ++ rest)
      ≡ behind_of l.initial.audit.dump (dump_pieces (walk_of l.input) ++ rest);
}
