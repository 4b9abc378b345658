-- What a part of a run may answer in place of a value. A cause that no row names is refused.
use Rattle.std.specs.Prelude.{◌≡◌, ℕ, ◌≤◌, Option, Some, None, Result, Ok, Err}
use Rattle.input_output.specs.Source.{Rose}
use Rattle.label_base.specs.Answers.{Answers, Explains}
use Rattle.label_base.specs.declared.fault.Fault.{Fault}
use Rattle.label_base.specs.declared.fault.Fault.TheVariants as faults
use Rattle.tool_words.specs.declared.usage.Usage as wrong_word
use Rattle.run_faults.specs.declared.cause.Cause.{Cause}
use Rattle.run_faults.specs.declared.cause.Cause.TheVariants.{Done, Usage, Missing, SpecRefused}
use Rattle.run_faults.specs.declared.cause.Cause.TheVariants.{SubRefused, CustomRefused}
use Rattle.run_faults.specs.declared.cause.Cause.TheVariants.{DumpRefused, TemplateRefused}
use Rattle.run_faults.specs.declared.cause.Cause.TheVariants.{UsersRefused, RecordRefused, Unended}
use Rattle.run_faults.specs.declared.cause.Cause.TheVariants.{Doubled, Limit, WalkErrors, Differs}
use Rattle.run_faults.specs.declared.cause.Cause.TheVariants.{Denied, ReadFault, WriteFault}
use Rattle.run_faults.specs.declared.cause.Cause.TheVariants.{OutOfMemory}
use Rattle.run_faults.specs.declared.cause.LimitKind.{LimitKind}
use Rattle.run_faults.specs.declared.cause.LimitKind.TheVariants.{File, Specs, Records, RecordBytes}

-- the next part, where the one before it gave a value
abbrev pub and_then : {A B : Type 0} → Result A Cause → (A → Result B Cause) → Result B Cause
and_then (Ok a) next = next a
and_then (Err cause) next = Err cause

-- how a run ends whose words are wrong, or found no memory
abbrev pub words_cause : Fault wrong_word.Usage → Cause
words_cause (faults.Why wrong) = Usage wrong.index wrong.why
words_cause faults.OutOfMemory = OutOfMemory

-- the causes of a run that wrote its report
abbrev pub IsReported : Cause → Type 0
IsReported Done = Unit {0}
IsReported (WalkErrors count) = Unit {0}
IsReported (Differs count) = Unit {0}
IsReported (Denied finding) = Unit {0}
IsReported cause = ⊥

-- the causes of a run that came to writing the dump or the report, and found memory for it
abbrev pub IsWritten : Cause → Type 0
IsWritten WriteFault = Unit {0}
IsWritten cause = IsReported cause

-- the causes of a failed read and of want of memory, which say nothing of the bytes
abbrev pub IsReadingCause : Cause → Type 0
IsReadingCause ReadFault = Unit {0}
IsReadingCause OutOfMemory = Unit {0}
IsReadingCause cause = ⊥

-- the limits of the files
abbrev pub IsFileLimit : LimitKind → Type 0
IsFileLimit (File role) = Unit {0}
IsFileLimit Specs = Unit {0}
IsFileLimit which = ⊥

-- the limits of the input
abbrev pub IsInputLimit : LimitKind → Type 0
IsInputLimit Records = Unit {0}
IsInputLimit RecordBytes = Unit {0}
IsInputLimit which = ⊥

-- the causes that a look at the files can have
abbrev pub IsFileCause : Cause → Type 0
IsFileCause (Missing name) = Unit {0}
IsFileCause (SpecRefused role line why) = Unit {0}
IsFileCause (SubRefused role line) = Unit {0}
IsFileCause (CustomRefused line) = Unit {0}
IsFileCause (DumpRefused line why) = Unit {0}
IsFileCause (TemplateRefused line why) = Unit {0}
IsFileCause (UsersRefused line) = Unit {0}
IsFileCause (Limit which) = IsFileLimit which
IsFileCause cause = IsReadingCause cause

-- the causes that reading the input can have
abbrev pub IsInputCause : Cause → Type 0
IsInputCause (RecordRefused number why) = Unit {0}
IsInputCause (Unended number) = Unit {0}
IsInputCause (Doubled first second) = Unit {0}
IsInputCause (Limit which) = IsInputLimit which
IsInputCause cause = IsReadingCause cause

-- what a cause says of the bytes that were read: a failed read and want of memory say nothing
abbrev pub saying : Cause → Option Cause
saying ReadFault = None
saying OutOfMemory = None
saying cause = Some cause

-- a cause is what is meant, if it says anything
abbrev pub Explained : {V : Type 0} → Result V Cause → Cause → Type 0
Explained meant cause = Explains (saying cause) meant

-- what a part answers is what is meant, but for failed reads and want of memory
abbrev pub Gives : {V : Type 0} → Result V Cause → Result V Cause → Type 0
Gives meant result = Answers (λ value. value) saying result meant

-- only a failed read raises a count
abbrev pub CauseCounts : ℕ → ℕ → Cause → Type 0
CauseCounts before now ReadFault = (before ≤ now) × Rose before now
CauseCounts before now cause = now ≡ before

abbrev pub Counts : {V : Type 0} → ℕ → ℕ → Result V Cause → Type 0
Counts before now (Ok value) = now ≡ before
Counts before now (Err cause) = CauseCounts before now cause
