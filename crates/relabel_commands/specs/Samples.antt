-- How a run ends whose words ask for a sample.
use Rattle.std.specs.Prelude.{◌≡◌, ◌⊎◌, ℕ, List, [], ◌∷◌, Some, IfOk, IsOk}
use Rattle.input_output.specs.Source.{Rose}
use Rattle.run_faults.specs.declared.cause.Cause.{Cause}
use Rattle.run_faults.specs.declared.cause.Cause.TheVariants.{Done, OutOfMemory, ReadFault}
use Rattle.run_faults.specs.declared.cause.Cause.TheVariants.{WriteFault}
use Rattle.sample_tree.specs.Accepted.{IsAlwaysDone}
use Rattle.sample_tree.specs.Words.{sample_words}
use Rattle.relabel_commands.specs.Tools.{plan_of, tool_named}
use Rattle.relabel_commands.specs.declared.runs.TheConstants.{FIRST}
use Rattle.relabel_commands.specs.declared.runs.ToolName.TheVariants.{Sample}

-- all words ask for a sample
abbrev pub AskForSample : List (List ℕ) → Type 0
AskForSample [] = ⊥
AskForSample (tool ∷ words) = (tool_named tool ≡ Some Sample) × IsOk (sample_words FIRST words)

-- Its report is written, or its write failed, or memory was wanting. Neither the store nor the
-- input is called, so that a failed read is told only by a count that stands at its last value.
abbrev pub EndsSample : (read_faults input_faults : ℕ) → Cause → Type 0
EndsSample read_faults input_faults Done = Unit {0}
EndsSample read_faults input_faults WriteFault = Unit {0}
EndsSample read_faults input_faults OutOfMemory = Unit {0}
EndsSample read_faults input_faults ReadFault =
    Rose read_faults read_faults ⊎ Rose input_faults input_faults
EndsSample read_faults input_faults cause = ⊥

-- where words ask for a sample, their plan refuses nothing, whatever the files and the input are
abbrev pub RunsSample : List (List ℕ) → (read_faults input_faults : ℕ) → Cause → Type 0
RunsSample words read_faults input_faults cause =
    AskForSample words
    → IfOk (plan_of words) IsAlwaysDone × EndsSample read_faults input_faults cause
