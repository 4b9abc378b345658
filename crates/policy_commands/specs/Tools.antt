-- Which tool the first word names, and what the others ask of it.
use Rattle.std.specs.Prelude.{ℕ, List, [], ◌∷◌, Option, Some, None, Result, Err, if◌then◌else◌}
use Rattle.label_base.specs.Text.{same_bytes}
use Rattle.tool_words.specs.Words.{usage}
use Rattle.tool_words.specs.declared.usage.Usage.{Usage}
use Rattle.tool_words.specs.declared.usage.UsageWhy.TheVariants.{UnknownTool}
use Rattle.tool_runs.specs.Plan.{Plan, planned}
use Rattle.path_reasons.specs.Plan.{explain_plan}
use Rattle.path_reasons.specs.Words.{explain_words}
use Rattle.path_reasons.specs.declared.TheConstants.{EXPLAIN}
use Rattle.policy_commands.specs.declared.runs.TheConstants.{FIRST}
use Rattle.policy_commands.specs.declared.runs.ToolName.{ToolName}
use Rattle.policy_commands.specs.declared.runs.ToolName.TheVariants.{Explain}

-- the tool that a word names
abbrev pub tool_named : List ℕ → Option ToolName
tool_named word = if same_bytes word EXPLAIN.now then Some Explain else None

-- what the words behind a tool's name ask for: how they are read, and the plan of what they mean
abbrev pub asked_for : Option ToolName → List (List ℕ) → Result Plan Usage
asked_for (Some Explain) words = planned explain_plan (explain_words FIRST words)
asked_for None words = Err (usage 0 UnknownTool)

-- what all words ask for, or the first that is wrong
abbrev pub plan_of : List (List ℕ) → Result Plan Usage
plan_of [] = Err (usage 0 UnknownTool)
plan_of (tool ∷ words) = asked_for (tool_named tool) words
