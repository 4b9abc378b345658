-- What a run is in which no call failed: its cause, its status, its text and its files are those of
-- the answer, or memory was wanting.
use Rattle.std.specs.Prelude.{◌≡◌, ℕ, List, Some, Result, Ok, Err, ◌⊎◌}
use Rattle.std.specs.Io.KnownBytes.{Appends}
use Rattle.input_output.specs.Source.{Rose}
use Rattle.input_output.specs.Store.{Files}
use Rattle.file_roles.specs.declared.list.NamedFile.{NamedFile}
use Rattle.tool_words.specs.declared.usage.Usage.{Usage}
use Rattle.run_faults.specs.Faults.{fault_line, status_of}
use Rattle.run_faults.specs.declared.cause.Cause.{Cause}
use Rattle.run_faults.specs.declared.cause.Cause.TheVariants.{OutOfMemory}
use Rattle.run_endings.specs.Endings.{ending_cause}
use Rattle.run_endings.specs.declared.ending.Ending.{Ending}
use Rattle.tool_runs.specs.Outside.{Outside}
use Rattle.tool_runs.specs.Plan.{Plan, answer_in, input_in, is_soft_in, reads_in}
use Rattle.tool_runs.specs.Run.{files_with}

-- the cause of an answer, its text, and the files that it leaves
abbrev pub cause_in : Result Ending Cause → Cause
cause_in (Ok ending) = ending_cause ending.end
cause_in (Err cause) = cause

abbrev pub written_text : List NamedFile → Result Ending Cause → List ℕ
written_text reads (Ok ending) = ending.report
written_text reads (Err cause) = fault_line reads cause

abbrev pub files_in : Files → Result Ending Cause → Files
files_in known (Ok ending) = files_with known ending.saved
files_in known (Err cause) = known

-- the run's status, text and files are those of this answer
pub record Answered {S I : Type 0} (asked : Result Plan Usage) (before after : Outside S I)
    (known : Files) (meant : Result Ending Cause) (status : ℕ) (cause : Cause) : Type 0 where
  pub cause_is : cause ≡ cause_in meant
  pub status_is : status ≡ status_of (is_soft_in asked) (cause_in meant)
  pub text_is : Appends before.sink.written after.sink.written (written_text (reads_in asked) meant)
  pub files_are : after.store.files ≡ Some (files_in known meant)

-- no count of failed calls rose
pub record NoCallFailed {S I : Type 0} (before after : Outside S I) : Type 0 where
  pub files_read : Rose before.store.read_faults after.store.read_faults → ⊥
  pub file_written : Rose before.store.write_faults after.store.write_faults → ⊥
  pub input_read : Rose before.input.faults after.input.faults → ⊥
  pub sink_written : Rose before.sink.faults after.sink.faults → ⊥

-- where no call failed, and the files and the bytes of the input are known, the run is the
-- answer's, or memory was wanting
abbrev pub Complete : {S I : Type 0} → Result Plan Usage → (before after : Outside S I)
    → (status : ℕ) → Cause → Type 0
Complete asked before after status cause =
    (known : Files) (bytes : List ℕ)
    → before.store.files ≡ Some known → input_in asked before.input.left ≡ Some bytes
    → NoCallFailed before after
    → Answered asked before after known (answer_in asked known bytes) status cause
    ⊎ (cause ≡ OutOfMemory)
