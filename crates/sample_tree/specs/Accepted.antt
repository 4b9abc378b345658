-- A plan that refuses nothing.
use Rattle.std.specs.Prelude.{◌≡◌, List, ℕ, None, Ok}
use Rattle.input_output.specs.Store.{Files}
use Rattle.tool_runs.specs.Plan.{Plan}
use Rattle.run_endings.specs.declared.ending.End.TheVariants.{Done}
use Rattle.run_endings.specs.declared.ending.Ending.{Ending}

-- whatever the files and the input are, none is refused, and the end is that of a run without
-- errors
pub record IsAlwaysDone (plan : Plan) : Type 0 where
  pub accepts : (known : Files) → plan.refused known ≡ None
  pub answers : (known : Files) (input : List ℕ)
      → (ending : Ending) × (plan.answer known input ≡ Ok ending) × (ending.end ≡ Done)
