use Rattle.std.proofs.Common.{◌≡◌, List, length, take}
use Rattle.find_records.specs.Places.{records_at}
use Rattle.find_records.specs.Record.{Record}
use Rattle.find_records.proofs.lay.is_given.Given as goal

-- each place so far is that of the next record
abbrev pub invariant-each : goal.invariant-each
invariant-each l = (records : List Record) → length records ≡ l.count
    → records_at records (take l.i l.places) ≡ take l.i records
