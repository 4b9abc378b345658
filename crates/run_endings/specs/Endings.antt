-- What a run leaves at its end: a text saved, and its report or a fault line written.
use Rattle.std.specs.Prelude.{◌≡◌, ℕ, ◌≤◌, List, Option, Some, None, Result, Ok, Err, ◌⊎◌}
use Rattle.std.specs.Io.KnownBytes.{Appends}
use Rattle.input_output.specs.Sink.{AppendsFront}
use Rattle.input_output.specs.Source.{Rose}
use Rattle.input_output.specs.Store.{Files, SaveAsKnown}
use Rattle.input_output.specs.declared.store.SaveFault.{SaveFault}
use Rattle.run_faults.specs.declared.cause.Cause.{Cause}
use Rattle.run_faults.specs.declared.cause.Cause.TheVariants as causes
use Rattle.run_faults.specs.declared.cause.Cause.TheVariants.{WriteFault}
use Rattle.run_endings.specs.declared.ending.End.{End}
use Rattle.run_endings.specs.declared.ending.End.TheVariants.{Done, WalkErrors, Differs, Denied}
use Rattle.run_endings.specs.declared.ending.Saved.{Saved}
use Rattle.run_endings.specs.declared.ending.Ending.{Ending}

-- the cause of a run that ends so
abbrev pub ending_cause : End → Cause
ending_cause Done = causes.Done
ending_cause (WalkErrors count) = causes.WalkErrors count
ending_cause (Differs count) = causes.Differs count
ending_cause (Denied finding) = causes.Denied finding

-- all of a text was written, and the sink didn't fail
abbrev pub WritesAll : {O : Type 0} → (O → Option (List ℕ)) → (O → ℕ) → O → O → List ℕ → Type 0
WritesAll written faults old new text =
    Appends (written old) (written new) text × (faults new ≡ faults old)

-- the sink failed, and a front of a text was written
abbrev pub WritesFront : {O : Type 0} → (O → Option (List ℕ)) → (O → ℕ) → O → O → List ℕ → Type 0
WritesFront written faults old new text =
    AppendsFront (written old) (written new) text × (faults old ≤ faults new)
    × Rose (faults old) (faults new)

-- a line was written, or a front of it where the sink failed
abbrev pub LineOrFront : {O : Type 0} → (O → Option (List ℕ)) → (O → ℕ) → O → O → List ℕ → Type 0
LineOrFront written faults old new line =
    WritesAll written faults old new line ⊎ WritesFront written faults old new line

-- how many files are written for an ending
abbrev pub writes_of : {A : Type 0} → Option A → ℕ
writes_of None = 0
writes_of (Some saved) = 1

-- the write of a file: it was saved, or the write failed, or found no memory; without a file
-- nothing is written
abbrev pub Saves : Option Files → Option Files → Option Saved → Result (Unit {0}) SaveFault → Type 0
Saves old new None (Ok done) = new ≡ old
Saves old new None (Err fault) = ⊥
Saves old new (Some saved) result = SaveAsKnown old new saved.name saved.text result

-- a write of the report: it was written whole and the cause is its own, or a front of it was where
-- the sink failed
abbrev pub WritesReport : {O : Type 0}
    → (O → Option (List ℕ)) → (O → ℕ) → O → O → Ending → Cause → Type 0
WritesReport written faults old new ending cause =
    (cause ≡ ending_cause ending.end) × WritesAll written faults old new ending.report
    ⊎ (cause ≡ WriteFault) × WritesFront written faults old new ending.report
