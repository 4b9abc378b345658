-- The tree that the input gives.
use Rattle.std.specs.Prelude.{ℕ, nat_lt, List, [], length, Option, Some, None, Result, Ok, Err}
use Rattle.std.specs.Prelude.{if◌then◌else◌}
use Rattle.find_records.specs.Grammar.{records_of}
use Rattle.find_records.specs.Record.{AreOfFormat, Record}
use Rattle.find_records.specs.declared.format.Format.{Format}
use Rattle.find_records.specs.declared.fault.RecordsFault.{RecordsFault}
use Rattle.find_records.specs.declared.fault.RecordsFault.TheVariants as records
use Rattle.find_records.specs.declared.reading.RecordLimits.{RecordLimits}
use Rattle.tree_model.specs.Entries.{tree_of}
use Rattle.run_faults.specs.declared.cause.Cause.{Cause}
use Rattle.run_faults.specs.declared.cause.Cause.TheVariants.{RecordRefused, Unended, Doubled}
use Rattle.run_faults.specs.declared.cause.Cause.TheVariants.{Limit, ReadFault, OutOfMemory}
use Rattle.run_faults.specs.declared.cause.LimitKind.TheVariants.{Records, RecordBytes}
use Rattle.run_input.specs.declared.records.TheConstants.{MOST_RECORD_BYTES, MOST_RECORDS}

-- the greatest numbers of records and of their bytes
abbrev pub record_limits : RecordLimits
record_limits = record { records = MOST_RECORDS; bytes = MOST_RECORD_BYTES }

-- how a run ends where the input gives no records
abbrev pub records_refusal : RecordsFault → Cause
records_refusal records.ReadFault = ReadFault
records_refusal records.TooLong = Limit RecordBytes
records_refusal records.TooMany = Limit Records
records_refusal (records.Refused number why) = RecordRefused number why
records_refusal (records.Unended number) = Unended number
records_refusal records.OutOfMemory = OutOfMemory

-- entries, or the numbers of two records of one path
abbrev pub records_or_cause : Result (List Record) (ℕ × ℕ) → Result (List Record) Cause
records_or_cause (Ok entries) = Ok entries
records_or_cause (Err doubled) = Err (Doubled doubled.0 doubled.1)

abbrev pub entries_read : Result (List Record) RecordsFault → Result (List Record) Cause
entries_read (Ok records) = records_or_cause (tree_of records)
entries_read (Err fault) = Err (records_refusal fault)

-- the entries of the tree that the bytes of the input are, as records of this format
unfoldable pub records_read : Format → List ℕ → Result (List Record) Cause
records_read format bytes =
    if nat_lt MOST_RECORD_BYTES (length bytes) then Err (Limit RecordBytes)
    else entries_read (records_of format record_limits bytes)

-- the entries of a tool: those of the input where it takes records of a format, and else none
unfoldable pub entries_for : Option Format → List ℕ → Result (List Record) Cause
entries_for None input = Ok []
entries_for (Some format) input = records_read format input

-- the bytes of the input, of which none count where no records are taken
abbrev pub input_for : Option Format → Option (List ℕ) → Option (List ℕ)
input_for None left = Some []
input_for (Some format) left = left

-- entries are of the format whose records are taken
abbrev pub AreTaken : Option Format → List Record → Type 0
AreTaken None entries = Unit {0}
AreTaken (Some format) entries = AreOfFormat format entries
