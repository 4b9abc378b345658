-- What reading the records of a source says of the source.
use Rattle.std.specs.Prelude.{◌≡◌, ℕ, ◌+◌, ◌≤◌, List, [], ◌∷◌, ◌++◌, length, Option, Some, None}
use Rattle.std.specs.Prelude.{Result, Ok, Err}
use Rattle.std.specs.Io.KnownBytes.{Consumes}
use Rattle.input_output.specs.Source.{Rose}
use Rattle.find_records.specs.Record.{Record}
use Rattle.find_records.specs.declared.format.Format.{Format}
use Rattle.find_records.specs.declared.reading.RecordLimits.{RecordLimits}
use Rattle.find_records.specs.declared.fault.RecordsFault.{RecordsFault}
use Rattle.find_records.specs.declared.fault.RecordsFault.TheVariants.{ReadFault, TooLong}
use Rattle.find_records.specs.declared.fault.RecordsFault.TheVariants.{OutOfMemory}
use Rattle.find_records.specs.Grammar.{records_of}

-- all bytes that were left are read, within the limit, and this is what they mean
pub record ReadWhole (format : Format) (bytes : List ℕ) (new : Option (List ℕ))
    (limits : RecordLimits) (result : Result (List Record) RecordsFault) : Type 0 where
  pub within : length bytes ≤ limits.bytes
  pub nothing_left : new ≡ Some []
  pub meaning : records_of format limits bytes ≡ result

-- some bytes were taken from the front, at most one more than the limit
abbrev pub TookSome : List ℕ → Option (List ℕ) → RecordLimits → Type 0
TookSome bytes new limits =
    (taken : List ℕ) × Consumes (Some bytes) new taken × (length taken ≤ limits.bytes + 1)

-- a byte more than the limit was taken
abbrev pub TookTooMany : List ℕ → Option (List ℕ) → RecordLimits → Type 0
TookTooMany bytes new limits =
    (taken : List ℕ) × Consumes (Some bytes) new taken × (length taken ≡ limits.bytes + 1)

-- what an answer says of the bytes that were left
abbrev pub RecordsRead : Format → List ℕ → Option (List ℕ) → RecordLimits
    → Result (List Record) RecordsFault → Type 0
RecordsRead format bytes new limits (Err ReadFault) = TookSome bytes new limits
RecordsRead format bytes new limits (Err OutOfMemory) = TookSome bytes new limits
RecordsRead format bytes new limits (Err TooLong) = TookTooMany bytes new limits
RecordsRead format bytes new limits result = ReadWhole format bytes new limits result

-- the same, where the source tells its bytes
abbrev pub RecordsAsKnown : Format → Option (List ℕ) → Option (List ℕ) → RecordLimits
    → Result (List Record) RecordsFault → Type 0
RecordsAsKnown format None new limits result = Unit {0}
RecordsAsKnown format (Some bytes) new limits result = RecordsRead format bytes new limits result

-- what an answer says of the count of faults
abbrev pub RecordsCounts : ℕ → ℕ → Result (List Record) RecordsFault → Type 0
RecordsCounts before now (Err ReadFault) = (before ≤ now) × Rose before now
RecordsCounts before now result = now ≡ before

-- records, and one more that was read
abbrev pub with_one : {E : Type 0} → List Record → Result Record E → Result (List Record) E
with_one records (Ok found) = Ok (records ++ found ∷ [])
with_one records (Err why) = Err why
