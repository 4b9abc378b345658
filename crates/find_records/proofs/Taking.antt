-- What was taken from the front of a source.
use Rattle.std.proofs.Common.{◌≡◌, ◌∙◌, ap, sym, subst, refl, ℕ, ◌+◌, ◌≤◌, List, [], ◌++◌, length}
use Rattle.std.proofs.Common.{length-append, append_assoc, append-nil, arith}
use Rattle.std.specs.Prelude.{Option, Some, None, Result, Ok, Err, IfOk}
use Rattle.std.specs.Io.KnownBytes.{Keeps, Consumes, IsAtEnd}
use Rattle.label_base.specs.Answers.{Answers}
use Rattle.input_output.proofs.Known.{Consumes-then, Consumes-keeps, AtEnd-keeps}
use Rattle.find_records.specs.declared.format.Format.{Format}
use Rattle.find_records.specs.Record.{AreOfFormat, Record}
use Rattle.find_records.specs.declared.reading.RecordLimits.{RecordLimits}
use Rattle.find_records.specs.declared.fault.RecordsFault.{RecordsFault}
use Rattle.find_records.specs.declared.fault.RecordsFault.TheVariants.{ReadFault, TooLong}
use Rattle.find_records.specs.declared.fault.RecordsFault.TheVariants.{OutOfMemory}
use Rattle.find_records.specs.declared.so_far.RecordsSoFar.{RecordsSoFar}
use Rattle.find_records.specs.Cause.{records_cause}
use Rattle.find_records.specs.Grammar.{records_from, records_of}
use Rattle.find_records.specs.Reading.{RecordsCounts, RecordsAsKnown}
use Rattle.find_records.specs.SoFar.{meant_with}
use Rattle.find_records.proofs.Outcomes.{counts_of, shown_of}
use Rattle.find_records.proofs.RunGrammar.{run_means, run_of}

-- so many bytes were taken, and with any bytes behind them they mean what is meant with what is
-- read so far
pub record IsTaken (format : Format) (old now : Option (List ℕ)) (most count : ℕ)
    (s : RecordsSoFar) : Type 0 where
  pub bytes : List ℕ
  pub took : Consumes old now bytes
  pub size : length bytes ≡ count
  pub meant : (rest : List ℕ) → records_from format most 1 (bytes ++ rest) ≡ meant_with s rest

consumes_nothing : (old : Option (List ℕ)) → Consumes old old []
consumes_nothing None = tt
consumes_nothing (Some all) = refl

pub taken_nothing : (format : Format) (old : Option (List ℕ)) (most : ℕ) (s : RecordsSoFar)
    → ((rest : List ℕ) → meant_with s rest ≡ records_from format most 1 rest)
    → IsTaken format old old most 0 s
taken_nothing format old most s h =
    record { bytes = []; took = consumes_nothing old; size = refl; meant = λ rest. sym (h rest) }

pub taken_more : (format : Format) (old mid now : Option (List ℕ)) (most count more : ℕ)
    (s t : RecordsSoFar) (piece : List ℕ) → IsTaken format old mid most count s
    → Consumes mid now piece
    → more ≡ count + length piece
    → ((rest : List ℕ) → meant_with s (piece ++ rest) ≡ meant_with t rest)
    → IsTaken format old now most more t
taken_more format old mid now most count more s t piece a e n h = record {
  bytes = a.bytes ++ piece;
  took = Consumes-then old mid now a.bytes piece a.took e;
  size = omega (arith, length-append a.bytes piece, a.size, n);
  meant = λ rest. ap (records_from format most 1) (append_assoc a.bytes piece rest)
      ∙ a.meant (piece ++ rest) ∙ h rest;
}

-- ---- what an answer says of the bytes that were left

pub shown_want : (format : Format) (limits : RecordLimits) (old now : Option (List ℕ))
    (bytes : List ℕ) → Consumes old now bytes → length bytes ≤ limits.bytes + 1
    → RecordsAsKnown format old now limits (Err OutOfMemory)
shown_want format limits None now bytes h n = tt
shown_want format limits (Some all) now bytes h n = (bytes, h, n)

pub shown_fault : (format : Format) (limits : RecordLimits) (old now : Option (List ℕ))
    (bytes : List ℕ) → Consumes old now bytes → length bytes ≤ limits.bytes + 1
    → RecordsAsKnown format old now limits (Err ReadFault)
shown_fault format limits None now bytes h n = tt
shown_fault format limits (Some all) now bytes h n = (bytes, h, n)

pub shown_long : (format : Format) (limits : RecordLimits) (old now : Option (List ℕ))
    (bytes : List ℕ) → Consumes old now bytes → length bytes ≡ limits.bytes + 1
    → RecordsAsKnown format old now limits (Err TooLong)
shown_long format limits None now bytes h n = tt
shown_long format limits (Some all) now bytes h n = (bytes, h, n)

-- nothing is left, and this is what all bytes mean
answered : (format : Format) (limits : RecordLimits) (old mid : Option (List ℕ)) (count : ℕ)
    (s : RecordsSoFar) (result : Result (List Record) RecordsFault)
    (a : IsTaken format old mid limits.records count s)
    → Answers (λ records. records) records_cause result (meant_with s [])
    → Answers (λ records. records) records_cause result (records_of format limits a.bytes)
answered format limits old mid count s result a h =
    subst (Answers (λ records. records) records_cause result)
    (sym (a.meant []) ∙ ap (records_from format limits.records 1) (append-nil a.bytes)) h

pub shown_end : (format : Format) (limits : RecordLimits) (old mid now : Option (List ℕ))
    (count : ℕ)
    (s : RecordsSoFar) (result : Result (List Record) RecordsFault)
    → IsTaken format old mid limits.records
    count s → count ≤ limits.bytes
    → IsAtEnd mid → Keeps mid now → Answers (λ records. records) records_cause result
    (meant_with s []) → RecordsAsKnown format old now limits result
shown_end format limits old mid now count s result a few ends keeps h =
    shown_of format limits old now a.bytes result (omega (arith, few, a.size))
    (Consumes-keeps old mid now a.bytes a.took keeps)
    (AtEnd-keeps old mid now a.bytes a.took ends keeps)
    (answered format limits old mid count s result a h)

pub counts_end : (format : Format) (limits : RecordLimits) (old mid : Option (List ℕ))
    (count before now : ℕ) (s : RecordsSoFar) (result : Result (List Record) RecordsFault)
    → IsTaken format old mid limits.records count s → now ≡ before
    → Answers (λ records. records) records_cause result (meant_with s [])
    → RecordsCounts before now result
counts_end format limits old mid count before now s result a same h =
    counts_of format limits a.bytes before now result same
    (answered format limits old mid count s result a h)

-- nothing was taken
pub shown_nothing : (format : Format) (limits : RecordLimits) (old : Option (List ℕ))
    → RecordsAsKnown format old old limits (Err OutOfMemory)
shown_nothing format limits old = shown_want format limits old old [] (consumes_nothing old)
    (omega arith)

-- the records that all bytes mean are of the format
pub of_end : (format : Format) (limits : RecordLimits) (old mid : Option (List ℕ)) (count : ℕ)
    (s : RecordsSoFar) (records : List Record) → IsTaken format old mid limits.records count s
    → meant_with s [] ≡ Ok records → AreOfFormat format records
of_end format limits old mid count s records a h =
    run_of format a.bytes records
    ((run_means format limits a.bytes (Ok records)).0
    (ap (records_from format limits.records 1) (sym (append-nil a.bytes)) ∙ a.meant [] ∙ h)).0

pub answer_of : (format : Format) (result meant : Result (List Record) RecordsFault)
    → Answers (λ records. records) records_cause result meant
    → ((records : List Record) → meant ≡ Ok records → AreOfFormat format records)
    → IfOk result (λ records. AreOfFormat format records)
answer_of format (Ok records) meant h of_format = of_format records h
answer_of format (Err why) meant h of_format = tt
