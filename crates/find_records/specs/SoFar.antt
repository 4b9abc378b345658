-- What is read so far of a source, and what it means with the bytes that are still to come.
use Rattle.std.specs.Prelude.{ℕ, ◌+◌, ◌≤◌, List, ◌++◌, length, Contains, Option, Some, None, Result}
use Rattle.std.specs.Prelude.{Err}
use Rattle.label_base.specs.Lines.{with_front}
use Rattle.find_records.specs.Record.{Record}
use Rattle.find_records.specs.declared.fault.RecordsFault.{RecordsFault}
use Rattle.find_records.specs.declared.reading.TheConstants.{NUL}
use Rattle.find_records.specs.declared.so_far.RecordsSoFar.{RecordsSoFar}
use Rattle.find_records.specs.Grammar.{records_from}

-- a first refusal decides
abbrev pub refused_or :
    Option RecordsFault → Result (List Record) RecordsFault → Result (List Record) RecordsFault
refused_or None meant = meant
refused_or (Some fault) meant = Err fault

-- what all that was read means with these bytes behind it
abbrev pub meant_with : RecordsSoFar → List ℕ → Result (List Record) RecordsFault
meant_with s rest =
    refused_or s.refused
    (with_front s.records (records_from s.format s.most (length s.records + 1) (s.pending ++ rest)))

-- there are no more records than there may be, and none is whole among the bytes behind them
pub record IsSound (s : RecordsSoFar) : Type 0 where
  pub few : length s.records ≤ s.most
  pub unended : ¬ Contains s.pending NUL
