-- What the constants of this crate are, in letters and figures.
use Rattle.std.specs.Prelude.{◌≡◌}
use Rattle.label_base.specs.Spelling.{byte}
use Rattle.find_records.specs.declared.reading.TheConstants.{NUL}
use Rattle.find_records.specs.declared.record.TheConstants.{SPACE}

pub record ConstantsAreStated : Type 0 where
  -- what parts the fields of a record
  pub space : SPACE ≡ byte " "
  -- what ends a record
  pub nul : NUL ≡ 0
