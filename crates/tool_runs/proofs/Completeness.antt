-- Where no call failed, a run's cause, status, text and files are the answer's.
use Rattle.std.proofs.Common.{◌≡◌, ◌∙◌, ap, sym, subst, refl, ℕ, ◌⊎◌, inl, inr, List}
use Rattle.std.specs.Prelude.{Option, Some, Result, Err, IfSome}
use Rattle.std.specs.Io.KnownBytes.{Appends}
use Rattle.input_output.specs.Source.{Rose}
use Rattle.input_output.specs.Store.{Files}
use Rattle.tool_words.specs.declared.usage.Usage.{Usage}
use Rattle.run_faults.specs.Causes.{IsWritten}
use Rattle.run_faults.specs.Faults.{fault_line, status_of}
use Rattle.run_faults.specs.declared.cause.Cause.{Cause}
use Rattle.run_faults.specs.declared.cause.Cause.TheVariants.{Done, WalkErrors, Differs, Denied}
use Rattle.run_faults.specs.declared.cause.Cause.TheVariants.{ReadFault, WriteFault, OutOfMemory}
use Rattle.run_endings.specs.declared.ending.Ending.{Ending}
use Rattle.tool_runs.specs.Outside.{Outside, SinkSeen, WritesLine}
use Rattle.tool_runs.specs.Plan.{Plan, answer_in, input_in, is_soft_in, reads_in}
use Rattle.tool_runs.specs.Complete.{Answered, Complete, cause_in, files_in, written_text}
use Rattle.tool_runs.specs.Run.{EndsAsMeant, FileFailed, InputFailed, LosesDump, LosesReport}
use Rattle.tool_runs.specs.Run.{Reports, Run, WritesAndSaves}

whole_line : (sink sink_now : SinkSeen) (line : List ℕ) → (Rose sink.faults sink_now.faults → ⊥)
    → WritesLine sink sink_now line → Appends sink.written sink_now.written line
whole_line sink sink_now line calm (inl whole) = whole.0
whole_line sink sink_now line calm (inr front) = absurd (calm front.2)

module _ {S I : Type 0} (asked : Result Plan Usage) (before after : Outside S I) where
  abbrev Text : List ℕ → Type 0
  Text text = Appends before.sink.written after.sink.written text

  module _ (known : Files) (meant : Result Ending Cause) (status : ℕ) where
    abbrev Meets : Cause → Type 0
    Meets cause = Answered asked before after known meant status cause

    abbrev Status : Cause → Type 0
    Status cause = status ≡ status_of (is_soft_in asked) cause

    whole_report : (cause : Cause) → Status cause
        → Reports meant (WritesAndSaves before after known) cause → Meets cause
    whole_report cause is reports = record {
      cause_is = cause_is;
      status_is = is ∙ ap (status_of (is_soft_in asked)) cause_is;
      text_is = subst Text (sym (ap (written_text (reads_in asked)) reports.is_meant))
          reports.done.whole;
      files_are = reports.done.saved ∙ sym (ap (λ m. Some (files_in known m)) reports.is_meant);
    }
      where
        cause_is : cause ≡ cause_in meant
        cause_is = reports.cause_is ∙ sym (ap cause_in reports.is_meant)

    refused : (cause : Cause) → Status cause → meant ≡ Err cause
        → Text (fault_line (reads_in asked) cause) → after.store.files ≡ Some known → Meets cause
    refused cause status_is is line same = record {
      cause_is = sym (ap cause_in is);
      status_is = status_is ∙ ap (status_of (is_soft_in asked)) (sym (ap cause_in is));
      text_is = subst Text (sym (ap (written_text (reads_in asked)) is)) line;
      files_are = same ∙ sym (ap (λ m. Some (files_in known m)) is);
    }

    completes : (cause : Cause) → Status cause
        → EndsAsMeant meant (WritesAndSaves before after known) cause
        → ((IsWritten cause → ⊥) → Text (fault_line (reads_in asked) cause))
        → ((IsWritten cause → ⊥) → after.store.files ≡ Some known)
        → (cause ≡ ReadFault → ⊥) → (cause ≡ WriteFault → ⊥)
        → Meets cause ⊎ (cause ≡ OutOfMemory)
    completes Done is ends line same no_read no_write = inl (whole_report Done is ends)
    completes (WalkErrors count) is ends line same no_read no_write =
        inl (whole_report (WalkErrors count) is ends)
    completes (Differs count) is ends line same no_read no_write =
        inl (whole_report (Differs count) is ends)
    completes (Denied finding) is ends line same no_read no_write =
        inl (whole_report (Denied finding) is ends)
    completes WriteFault is ends line same no_read no_write = absurd (no_write refl)
    completes ReadFault is ends line same no_read no_write = absurd (no_read refl)
    completes OutOfMemory is ends line same no_read no_write = inr refl
    completes cause is ends line same no_read no_write =
        inl (refused cause is ends (line (λ written. written)) (same (λ written. written)))

  pub complete : (status : ℕ) (cause : Cause) → status ≡ status_of (is_soft_in asked) cause
      → Run asked before after cause → Complete asked before after status cause
  complete status cause status_is ran known bytes files_known input_known calm =
      completes known (answer_in asked known bytes) status cause status_is ends
      (λ unwritten. whole_line before.sink after.sink _ calm.sink_written
      (ran.fault_line_written unwritten))
      (λ unwritten. subst (λ (found : Option Files).
      IfSome found (λ known. after.store.files ≡ Some known)) files_known
      (ran.same_files unwritten))
      (λ is. unread (ran.read_failed is)) (λ is. written_all (ran.write_failed is))
    where
      ends : EndsAsMeant (answer_in asked known bytes) (WritesAndSaves before after known) cause
      ends = subst (λ (found : Option (List ℕ)). IfSome found (λ bytes.
          EndsAsMeant (answer_in asked known bytes) (WritesAndSaves before after known) cause))
          input_known
          (subst (λ (found : Option Files). IfSome found (λ known.
          IfSome (input_in asked before.input.left) (λ bytes.
          EndsAsMeant (answer_in asked known bytes) (WritesAndSaves before after known) cause)))
          files_known ran.is_meant)

      unread : FileFailed before after ⊎ InputFailed asked before after → ⊥
      unread (inl file) = calm.files_read file.rose
      unread (inr given) = calm.input_read given.rose

      written_all : LosesDump asked before after ⊎ LosesReport asked before after → ⊥
      written_all (inl dump) = calm.file_written dump.rose
      written_all (inr report) = calm.sink_written report.rose
