-- What the constants of this crate are, in figures.
use Rattle.std.specs.Prelude.{◌≡◌}
use Rattle.run_input.specs.declared.records.TheConstants.{MOST_RECORD_BYTES, MOST_RECORDS}

pub record ConstantsAreStated : Type 0 where
  -- the most records, and the most bytes of all of them
  pub most_records : MOST_RECORDS ≡ 2097152
  pub most_record_bytes : MOST_RECORD_BYTES ≡ 536870912
