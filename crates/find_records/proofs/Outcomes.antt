-- What the records of bytes say of the source that had them.
use Rattle.std.proofs.Common.{◌≡◌, ◌∙◌, ap, sym, subst, ℕ, ◌+◌, ◌≤◌, List, [], ◌++◌, length}
use Rattle.std.proofs.Common.{append-nil, arith}
use Rattle.std.specs.Prelude.{Option, Some, None, Result, Ok, Err, IfSome}
use Rattle.std.specs.Io.KnownBytes.{Consumes, IsAtEnd}
use Rattle.label_base.specs.Answers.{Answers}
use Rattle.find_records.specs.declared.format.Format.{Format}
use Rattle.find_records.specs.Record.{Record}
use Rattle.find_records.specs.declared.reading.RecordLimits.{RecordLimits}
use Rattle.find_records.specs.declared.fault.RecordsFault.{RecordsFault}
use Rattle.find_records.specs.declared.fault.RecordsFault.TheVariants.{ReadFault, TooLong, TooMany}
use Rattle.find_records.specs.declared.fault.RecordsFault.TheVariants.{Refused, Unended}
use Rattle.find_records.specs.declared.fault.RecordsFault.TheVariants.{OutOfMemory}
use Rattle.find_records.specs.Cause.{records_cause}
use Rattle.find_records.specs.Grammar.{records_of}
use Rattle.find_records.specs.Reading.{ReadWhole, RecordsCounts, RecordsRead, RecordsAsKnown}
use Rattle.find_records.proofs.RunGrammar.{run_means}

abbrev IsAnswer : Format → RecordLimits → List ℕ → Result (List Record) RecordsFault → Type 0
IsAnswer format limits bytes result = Answers (λ records. records) records_cause result
    (records_of format limits bytes)

pub counts_of : (format : Format) (limits : RecordLimits) (bytes : List ℕ) (before now : ℕ)
    (result : Result (List Record) RecordsFault) → now ≡ before
    → IsAnswer format limits bytes result → RecordsCounts before now result
counts_of format limits bytes before now (Ok records) same answer = same
counts_of format limits bytes before now (Err ReadFault) same answer =
    absurd ((run_means format limits bytes (Err ReadFault)).0 answer)
counts_of format limits bytes before now (Err TooLong) same answer = same
counts_of format limits bytes before now (Err TooMany) same answer = same
counts_of format limits bytes before now (Err (Refused number why)) same answer = same
counts_of format limits bytes before now (Err (Unended number)) same answer = same
counts_of format limits bytes before now (Err OutOfMemory) same answer = same

whole : (format : Format) (limits : RecordLimits) (bytes : List ℕ) (new : Option (List ℕ))
    (result : Result (List Record) RecordsFault) → length bytes ≤ limits.bytes → new ≡ Some []
    → records_of format limits bytes ≡ result → ReadWhole format bytes new limits result
whole format limits bytes new result few ends meaning =
    record { within = few; nothing_left = ends; meaning = meaning }

read_of : (format : Format) (limits : RecordLimits) (bytes : List ℕ) (new : Option (List ℕ))
    (result : Result (List Record) RecordsFault) → length bytes ≤ limits.bytes → new ≡ Some []
    → Consumes (Some bytes) new bytes → IsAnswer format limits bytes result
    → RecordsRead format bytes new limits result
read_of format limits bytes new (Ok records) few ends taken answer =
    whole format limits bytes new (Ok records) few ends answer
read_of format limits bytes new (Err ReadFault) few ends taken answer =
    (bytes, taken, omega (arith, few))
read_of format limits bytes new (Err TooLong) few ends taken answer =
    absurd ((run_means format limits bytes (Err TooLong)).0 answer)
read_of format limits bytes new (Err TooMany) few ends taken answer =
    whole format limits bytes new (Err TooMany) few ends answer
read_of format limits bytes new (Err (Refused number why)) few ends taken answer =
    whole format limits bytes new (Err (Refused number why)) few ends answer
read_of format limits bytes new (Err (Unended number)) few ends taken answer =
    whole format limits bytes new (Err (Unended number)) few ends answer
read_of format limits bytes new (Err OutOfMemory) few ends taken answer =
    (bytes, taken, omega (arith, few))

-- the bytes that were left are the bytes that were taken
pub shown_of : (format : Format) (limits : RecordLimits) (old new : Option (List ℕ))
    (bytes : List ℕ)
    (result : Result (List Record) RecordsFault) → length bytes ≤ limits.bytes
    → Consumes old new bytes → IfSome old (λ _. IsAtEnd new) → IsAnswer format limits bytes result
    → RecordsAsKnown format old new limits result
shown_of format limits None new bytes result few taken ends answer = tt
shown_of format limits (Some all) None bytes result few taken ends answer = absurd taken
shown_of format limits (Some all) (Some left) bytes result few taken ends answer =
    let same : all ≡ bytes = taken ∙ ap (λ t. bytes ++ t) ends ∙ append-nil bytes in
    subst (λ text. RecordsRead format text (Some left) limits result) (sym same)
    (read_of format limits bytes (Some left) result few (ap Some ends)
    (subst (λ text. Consumes (Some text) (Some left) bytes) same taken) answer)
