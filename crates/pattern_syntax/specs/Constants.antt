-- What the constants of this crate are, in figures: the limits of patterns.
use Rattle.std.specs.Prelude.{◌≡◌}
use Rattle.pattern_syntax.specs.declared.limits.TheConstants.{MOST_GROUPS, MOST_POSITIONS}
use Rattle.pattern_syntax.specs.declared.limits.TheConstants.{MOST_TIMES}

pub record ConstantsAreStated : Type 0 where
  -- the most groups that are open at once, the most positions, and the greatest number of a repeat
  pub most_groups : MOST_GROUPS ≡ 50
  pub most_positions : MOST_POSITIONS ≡ 2000
  pub most_times : MOST_TIMES ≡ 65535
