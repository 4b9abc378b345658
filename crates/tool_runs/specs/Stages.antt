-- What the last stage of a run leaves: once files and input are read, the tool is asked, and its
-- answer written.
use Rattle.std.specs.Prelude.{◌≡◌, ℕ, List, Option, None, Result, Ok, Err, option_map, ◌⊎◌}
use Rattle.input_output.specs.Store.{Calls, SaveCounts}
use Rattle.input_output.specs.declared.store.SaveFault.{SaveFault}
use Rattle.input_output.specs.declared.store.SaveFault.TheVariants as save
use Rattle.file_roles.specs.declared.list.NamedFile.{NamedFile}
use Rattle.run_faults.specs.Causes.{Gives, IsInputCause}
use Rattle.run_faults.specs.Faults.{fault_line}
use Rattle.run_faults.specs.declared.cause.Cause.{Cause}
use Rattle.run_faults.specs.declared.cause.Cause.TheVariants.{OutOfMemory, ReadFault, WriteFault}
use Rattle.run_endings.specs.Endings.{Saves, WritesReport, writes_of}
use Rattle.run_endings.specs.declared.ending.Ending.{Ending}
use Rattle.run_endings.specs.declared.ending.Saved.{Saved}
use Rattle.tool_runs.specs.Outside.{SinkSeen, StoreSeen, WritesLine}

abbrev pub saved_name : Saved → List ℕ
saved_name saved = saved.name

-- The tool refused, and the store is as it was. Its refusal is the cause, or want of memory for the
-- line.
pub record RefusesAnswer {S : Type 0} (reads : List NamedFile) (meant : Result Ending Cause)
    (store store_now : StoreSeen S) (sink sink_now : SinkSeen) (cause : Cause) : Type 0 where
  pub refusal : Cause
  pub given : Gives meant (Err refusal)
  pub of_input : IsInputCause refusal
  pub no_read_failed : refusal ≡ ReadFault → ⊥
  pub cause_is : (cause ≡ refusal) ⊎ (cause ≡ OutOfMemory)
  pub untouched : store_now ≡ store
  pub line : WritesLine sink sink_now (fault_line reads cause)

-- a cause, and its line
pub record GivesUp (reads : List NamedFile) (meant : Cause) (sink sink_now : SinkSeen)
    (cause : Cause) : Type 0 where
  pub cause_is : cause ≡ meant
  pub line : WritesLine sink sink_now (fault_line reads meant)

-- what is written once the file was saved or not: the report, or that the file is lost, or that
-- there was no memory to write it
abbrev pub WritesBehind : List NamedFile → Ending → (saving : Result (Unit {0}) SaveFault)
    → SinkSeen → SinkSeen → Cause → Type 0
WritesBehind reads made (Ok done) sink sink_now cause =
    WritesReport (λ (s : SinkSeen). s.written) (λ (s : SinkSeen). s.faults) sink sink_now made
    cause
WritesBehind reads made (Err save.Failed) sink sink_now cause =
    GivesUp reads WriteFault sink sink_now cause
WritesBehind reads made (Err save.OutOfMemory) sink sink_now cause =
    GivesUp reads OutOfMemory sink sink_now cause

-- The tool answered; its file was saved, where one is asked for, or not, and then its report was
-- written or a line.
pub record WritesAnswer {S : Type 0} (reads : List NamedFile) (output : Option (List ℕ))
    (meant : Result Ending Cause) (store store_now : StoreSeen S) (sink sink_now : SinkSeen)
    (cause : Cause) : Type 0 where
  pub made : Ending
  pub is_meant : meant ≡ Ok made
  pub named : option_map saved_name made.saved ≡ output
  pub saving : Result (Unit {0}) SaveFault
  pub file_saved : Saves store.files store_now.files made.saved saving
  pub calls_made : Calls store.calls store_now.calls (writes_of made.saved)
  pub unasked : made.saved ≡ None → store_now ≡ store
  pub write_counts : SaveCounts store.write_faults store_now.write_faults saving
  pub read_counts : store_now.read_faults ≡ store.read_faults
  pub behind : WritesBehind reads made saving sink sink_now cause

-- what asking the tool and writing its answer leave
abbrev pub Ended : {S : Type 0} → (reads : List NamedFile) → (output : Option (List ℕ))
    → (meant : Result Ending Cause) → (store store_now : StoreSeen S) → (sink sink_now : SinkSeen)
    → Cause → Type 0
Ended reads output meant store store_now sink sink_now cause =
    RefusesAnswer reads meant store store_now sink sink_now cause
    ⊎ WritesAnswer reads output meant store store_now sink sink_now cause
