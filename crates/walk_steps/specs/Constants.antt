-- What the constants of this crate are, in figures.
use Rattle.std.specs.Prelude.{◌≡◌}
use Rattle.walk_steps.specs.declared.machine.TheConstants.{NONE_WORD}

pub record ConstantsAreStated : Type 0 where
  -- the word of a group that no entry was claimed for: the greatest of 64 bits
  pub none_word : NONE_WORD ≡ 18446744073709551615
