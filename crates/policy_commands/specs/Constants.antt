-- What the constants of this crate are, in figures. The names of the tools are stated in theirs.
use Rattle.std.specs.Prelude.{◌≡◌}
use Rattle.policy_commands.specs.declared.runs.TheConstants.{FIRST}

pub record ConstantsAreStated : Type 0 where
  -- the index of the first word behind a tool's name, which has 0
  pub first : FIRST ≡ 1
