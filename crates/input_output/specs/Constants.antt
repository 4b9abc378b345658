-- What the constants of this crate are, in figures.
use Rattle.std.specs.Prelude.{◌≡◌}
use Rattle.input_output.specs.declared.source.TheConstants.{LAST_COUNT}

pub record ConstantsAreStated : Type 0 where
  -- where a count of faults stands still: the greatest of 64 bits
  pub last_count : LAST_COUNT ≡ 18446744073709551615
