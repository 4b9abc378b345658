-- What a run of a tool says and does, over any store, input and sink: the headline.
use Rattle.std.specs.Prelude.{◌≡◌, ℕ, ◌+◌, ◌≤◌, true, List, [], Option, Some, None, is_some, IsSome}
use Rattle.std.specs.Prelude.{Result, Ok, Err, IsOk, IsOkAnd, IfErr, IfOk, IfSome, ◌⊎◌}
use Rattle.std.specs.FinMap as map
use Rattle.std.specs.Io.KnownBytes.{Appends}
use Rattle.input_output.specs.Sink.{AppendsFront}
use Rattle.input_output.specs.Source.{Rose}
use Rattle.input_output.specs.Store.{Calls, Files}
use Rattle.tool_words.specs.declared.usage.Usage.{Usage}
use Rattle.tool_runs.specs.Outside.{Outside, WritesLine}
use Rattle.tool_runs.specs.Plan.{Plan, answer_in, input_in, output_in, reads_in}
use Rattle.run_faults.specs.Causes.{Gives, IsFileCause, IsReadingCause, IsReported, IsWritten}
use Rattle.run_endings.specs.Endings.{ending_cause, writes_of}
use Rattle.run_input.specs.Files.{CallsUpTo}
use Rattle.run_input.specs.Records.{input_for}
use Rattle.run_faults.specs.Faults.{fault_line}
use Rattle.run_faults.specs.declared.cause.Cause.{Cause}
use Rattle.run_faults.specs.declared.cause.Cause.TheVariants as causes
use Rattle.run_faults.specs.declared.cause.Cause.TheVariants.{Done, WalkErrors, Differs, Denied}
use Rattle.run_faults.specs.declared.cause.Cause.TheVariants.{ReadFault, WriteFault, OutOfMemory}
use Rattle.run_endings.specs.declared.ending.Saved.{Saved}
use Rattle.run_endings.specs.declared.ending.Ending.{Ending}

-- ---- refusals

-- wrong words are the cause, or want of memory, and neither the store nor the input was touched
pub record RefusesWords {S I : Type 0} (wrong : Usage) (before after : Outside S I) (cause : Cause)
    : Type 0 where
  pub cause_is : (cause ≡ causes.Usage wrong.index wrong.why) ⊎ (cause ≡ OutOfMemory)
  pub no_file_read : after.store ≡ before.store
  pub no_input_read : after.input ≡ before.input

-- a refused file is the cause, or a failed read or want of memory, and the input was not touched
pub record RefusesFile {S I : Type 0} (refusal : Cause) (before after : Outside S I) (cause : Cause)
    : Type 0 where
  pub cause_is : (cause ≡ refusal) ⊎ IsReadingCause cause
  pub of_files : IsFileCause cause
  pub no_input_read : after.input ≡ before.input

-- what the files say of the end of a run: where all are accepted, none of them is refused
abbrev pub FilesDecide : {S I : Type 0} → Option Cause → (before after : Outside S I) → Cause
    → Type 0
FilesDecide (Some refusal) before after cause = RefusesFile refusal before after cause
FilesDecide None before after cause = IsFileCause cause → IsReadingCause cause

-- ---- what is written

-- the files where the dump is saved
abbrev pub files_with : Files → Option Saved → Files
files_with files None = files
files_with files (Some saved) = map.insert files saved.name saved.text

-- all files are as before, but for the one of this name
abbrev pub OthersStay : Option Files → Option Files → Option (List ℕ) → Type 0
OthersStay old new None = new ≡ old
OthersStay None new (Some name) = Unit {0}
OthersStay (Some old) None (Some name) = ⊥
OthersStay (Some old) (Some new) (Some name) = map.remove new name ≡ map.remove old name

-- the report of an ending was written
abbrev pub Writes : {S I : Type 0} → (before after : Outside S I) → Ending → Type 0
Writes before after made = Appends before.sink.written after.sink.written made.report

-- the report of an ending was written, and its dump saved among the files that are known
pub record WritesAndSaves {S I : Type 0} (before after : Outside S I) (known : Files)
    (made : Ending) : Type 0 where
  pub whole : Writes before after made
  pub saved : after.store.files ≡ Some (files_with known made.saved)

-- a front of the report was written, and the dump saved
pub record WritesFrontAndSaves {S I : Type 0} (before after : Outside S I) (known : Files)
    (made : Ending) : Type 0 where
  pub front : AppendsFront before.sink.written after.sink.written made.report
  pub saved : after.store.files ≡ Some (files_with known made.saved)

-- an ending is meant, this is done with it, and the cause is its own
pub record Reports (meant : Result Ending Cause) (IsDone : Ending → Type 0) (cause : Cause)
    : Type 0 where
  pub reported : Ending
  pub is_meant : meant ≡ Ok reported
  pub done : IsDone reported
  pub cause_is : cause ≡ ending_cause reported.end

-- The end of a run is the one that is meant: this is done with its ending, or it is refused. A
-- write fails only where there is no refusal.
abbrev pub EndsAsMeant : Result Ending Cause → (IsDone : Ending → Type 0) → Cause → Type 0
EndsAsMeant meant IsDone Done = Reports meant IsDone Done
EndsAsMeant meant IsDone (WalkErrors count) = Reports meant IsDone (WalkErrors count)
EndsAsMeant meant IsDone (Differs count) = Reports meant IsDone (Differs count)
EndsAsMeant meant IsDone (Denied finding) = Reports meant IsDone (Denied finding)
EndsAsMeant meant IsDone WriteFault = IsOk meant
EndsAsMeant meant IsDone cause = Gives meant (Err cause)

-- ---- failed reads and writes

-- The calls of the store: each file that is to be opened is, in its turn, and no other, and one is
-- written where that is asked for. A failed read, in the store or later, comes at a file that is to
-- be opened, or behind all of them: no file before it is refused.
abbrev pub CallsMade : Option ℕ → Option ℕ → (opened writes : ℕ) → Cause → Type 0
CallsMade old now opened writes ReadFault = CallsUpTo old now opened
CallsMade old now opened writes OutOfMemory = CallsUpTo old now (opened + writes)
CallsMade old now opened writes WriteFault = Calls old now (opened + writes)
CallsMade old now opened writes Done = Calls old now (opened + writes)
CallsMade old now opened writes (WalkErrors count) = Calls old now (opened + writes)
CallsMade old now opened writes (Differs count) = Calls old now (opened + writes)
CallsMade old now opened writes (Denied finding) = Calls old now (opened + writes)
CallsMade old now opened writes cause = Calls old now opened

-- a read of a file failed, before the input was touched
pub record FileFailed {S I : Type 0} (before after : Outside S I) : Type 0 where
  pub rose : Rose before.store.read_faults after.store.read_faults
  pub no_input_read : after.input ≡ before.input

-- a read of the input failed, all files being accepted
pub record InputFailed {S I : Type 0} (asked : Result Plan Usage) (before after : Outside S I)
    : Type 0 where
  pub rose : Rose before.input.faults after.input.faults
  pub no_file_failed : after.store.read_faults ≡ before.store.read_faults
  pub accepted : IfOk asked (λ plan. IfSome before.store.files (λ known.
      plan.refused known ≡ None))

-- the write of the dump failed, which was asked for, and its line alone was written
pub record LosesDump {S I : Type 0} (asked : Result Plan Usage) (before after : Outside S I)
    : Type 0 where
  pub to_file : is_some (output_in asked) ≡ true
  pub rose : Rose before.store.write_faults after.store.write_faults
  pub line : WritesLine before.sink after.sink (fault_line (reads_in asked) WriteFault)

-- the write of the report failed, after the dump was saved, and no line was tried
pub record LosesReport {S I : Type 0} (asked : Result Plan Usage) (before after : Outside S I)
    : Type 0 where
  pub rose : Rose before.sink.faults after.sink.faults
  pub no_file_failed : after.store.write_faults ≡ before.store.write_faults
  pub front : IfSome before.store.files (λ known.
      IfSome (input_in asked before.input.left) (λ bytes.
      IsOkAnd (answer_in asked known bytes) (WritesFrontAndSaves before after known)))

-- A run: what its words ask for, or the first wrong one; the outside before it and after it; and
-- why it ended.
pub record Run {S I : Type 0} (asked : Result Plan Usage) (before after : Outside S I)
    (cause : Cause) : Type 0 where
  -- Wrong words are known as such, and only they, whatever the objects show. Nothing is read then.
  pub wrong_words : IfErr asked (λ wrong. RefusesWords wrong before after cause)
  pub only_wrong_words : (wrong : Usage)
      → cause ≡ causes.Usage wrong.index wrong.why → asked ≡ Err wrong
  -- A command that takes no records leaves the input alone.
  pub no_records : IfOk asked (λ plan. plan.records ≡ None → after.input ≡ before.input)
  -- A refused file is known as such, before the input is touched. Any later end means that all
  -- files are accepted.
  pub files_decide : IfOk asked (λ plan. IfSome before.store.files (λ known.
      FilesDecide (plan.refused known) before after cause))
  -- The files that are opened are those that are meant to be, up to the first refusal, and one more
  -- call of the store writes, where that is asked for. A run that reads and writes no file leaves
  -- the store as it was.
  pub calls_made : IfOk asked (λ plan. IfSome before.store.files (λ known.
      CallsMade before.store.calls after.store.calls (plan.opened known) (writes_of plan.output)
      cause))
  pub no_files : IfOk asked (λ plan. plan.reads ≡ [] → plan.output ≡ None
      → after.store ≡ before.store)
  -- The end is the one that is meant: after a report the sink gained it and the store's files have
  -- the dump.
  pub is_meant : IfSome before.store.files (λ known.
      IfSome (input_in asked before.input.left) (λ bytes.
      EndsAsMeant (answer_in asked known bytes) (WritesAndSaves before after known) cause))
  -- A tool that reads no file ends as it is meant to whatever the store shows.
  pub is_meant_alone : IfOk asked (λ plan. plan.reads ≡ [] → (known : Files)
      → IfSome (input_for plan.records before.input.left) (λ bytes.
      EndsAsMeant (plan.answer known bytes) (Writes before after) cause))
  -- Whatever the end, all files but that of the dump are as before; and where nothing was to be
  -- written yet, that one too. The sink gained the line that tells the cause then.
  pub others_stay : OthersStay before.store.files after.store.files (output_in asked)
  pub same_files : (IsWritten cause → ⊥)
      → IfSome before.store.files (λ known. after.store.files ≡ Some known)
  pub fault_line_written : (IsWritten cause → ⊥)
      → WritesLine before.sink after.sink (fault_line (reads_in asked) cause)
  -- Where dump or report are written, the records were read to their end.
  pub all_read : IsWritten cause → IfOk asked (λ plan. IsSome plan.records
      → IfSome before.input.left (λ bytes. after.input.left ≡ Some []))
  -- A read failed in the store with the input untouched, or in the input with all files accepted.
  pub read_failed : cause ≡ ReadFault → FileFailed before after ⊎ InputFailed asked before after
  -- A write failed in the store or in the sink.
  pub write_failed : cause ≡ WriteFault
      → LosesDump asked before after ⊎ LosesReport asked before after
  -- Counts of failed calls never fall. They rise by failed calls alone, which want of memory for
  -- the line of a failed read may hide.
  pub read_counts : before.store.read_faults ≤ after.store.read_faults
  pub input_counts : before.input.faults ≤ after.input.faults
  pub write_counts : before.store.write_faults ≤ after.store.write_faults
  pub no_read_failed : (IsReadingCause cause → ⊥)
      → (after.store.read_faults ≡ before.store.read_faults)
      × (after.input.faults ≡ before.input.faults)
  pub no_write_failed : (cause ≡ WriteFault → ⊥)
      → after.store.write_faults ≡ before.store.write_faults
  -- So does that of the sink, and after a whole report it is as before.
  pub sink_counts : before.sink.faults ≤ after.sink.faults
  pub no_report_failed : IsReported cause → after.sink.faults ≡ before.sink.faults
