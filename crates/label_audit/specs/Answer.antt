-- What audit writes: one line that tells its finding.
use Rattle.std.specs.Prelude.{ℕ, List, [], ◌++◌, get_or, slice_get, Option, Some, None}
use Rattle.file_paths.specs.Path.{Path}
use Rattle.find_records.specs.Record.{Record}
use Rattle.spec_reader.specs.SpecValue.{SpecValue}
use Rattle.report_text.specs.Texts.{shown_path}
use Rattle.tree_model.specs.Selection.{selected_by}
use Rattle.run_faults.specs.declared.finding.Finding.{Finding}
use Rattle.run_faults.specs.declared.finding.Finding.TheVariants.{Agrees, InReport, InDump}
use Rattle.run_faults.specs.declared.finding.Piece.{Piece}
use Rattle.run_faults.specs.declared.finding.Piece.TheVariants.{Operand, Entry, Rule, End}
use Rattle.run_endings.specs.declared.ending.End.{End as RunEnd}
use Rattle.run_endings.specs.declared.ending.End.TheVariants.{Denied, Done}
use Rattle.run_endings.specs.declared.ending.Ending.{Ending}
use Rattle.relabel_core.specs.Stored.{digests_by}
use Rattle.relabel_core.specs.Walk.{Walk, path_at}
use Rattle.relabel_core.specs.Walked.{walk_for}
use Rattle.label_audit.specs.Finding.{finding_of}
use Rattle.label_audit.specs.declared.answer.TheConstants.{AGREES, DUMP_DIFFERS, ITS_END, LINE_FEED}
use Rattle.label_audit.specs.declared.answer.TheConstants.{OPERAND, REPORT_DIFFERS, SPECIFICATION}
use Rattle.label_audit.specs.declared.found.AuditFiles.{AuditFiles}
use Rattle.label_audit.specs.declared.words.AuditWords.{AuditWords}

-- the text of a specification's pattern
abbrev pub pattern_text : Option SpecValue → List ℕ
pattern_text None = []
pattern_text (Some spec) = spec.text

-- a path, escaped, or a specification's pattern as it stands
abbrev pub audit_piece_text : Walk → List Path → Piece → List ℕ
audit_piece_text w operands (Operand i) = OPERAND.now ++ shown_path (get_or operands i [])
audit_piece_text w operands (Entry e) = shown_path (path_at w e)
audit_piece_text w operands (Rule i) = SPECIFICATION.now ++ pattern_text (slice_get w.rules.rules i)
audit_piece_text w operands End = ITS_END.now

abbrev pub finding_text : Walk → List Path → Finding → List ℕ
finding_text w operands Agrees = AGREES.now
finding_text w operands (InReport piece) = REPORT_DIFFERS.now ++ audit_piece_text w operands piece
finding_text w operands (InDump piece) = DUMP_DIFFERS.now ++ audit_piece_text w operands piece

abbrev pub finding_line : Walk → List Path → Finding → List ℕ
finding_line w operands finding = finding_text w operands finding ++ LINE_FEED.now

abbrev pub finding_end : Finding → RunEnd
finding_end Agrees = Done
finding_end finding = Denied finding

abbrev pub ending_by : Walk → List Path → Finding → Ending
ending_by w operands finding = record {
  report = finding_line w operands finding;
  end = finding_end finding;
  saved = None;
}

-- what is found of a walk with these operands is told
abbrev pub audit_ending : Walk → List Path → (absent : List ℕ) → AuditFiles → Ending
audit_ending w operands absent found =
    ending_by w operands (finding_of w operands absent found.report found.dump)

-- the walk is that of the run: over the entries of the input, by the rules that its files give and
-- from the digests that they store
unfoldable pub audit_of : AuditWords → AuditFiles → List Record → Ending
audit_of words found entries =
    audit_ending (walk_for entries words.inner.choice found.run.rules words.inner.options
    (digests_by found.run.stored.sections entries)) words.inner.choice.operands
    (selected_by words.inner.choice entries).absent found
