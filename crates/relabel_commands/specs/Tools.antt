-- Which tool the first word names, and what the others ask of it.
use Rattle.std.specs.Prelude.{ℕ, List, [], ◌∷◌, Option, Some, None, Result, Ok, Err, if◌then◌else◌}
use Rattle.label_base.specs.Text.{same_bytes}
use Rattle.tool_words.specs.Words.{usage}
use Rattle.tool_words.specs.declared.usage.Usage.{Usage}
use Rattle.tool_words.specs.declared.usage.UsageWhy.TheVariants.{UnknownTool}
use Rattle.tool_runs.specs.Plan.{Plan, planned}
use Rattle.tree_relabelling.specs.Plan.{relabel_plan}
use Rattle.tree_relabelling.specs.Words.{restorecon_words, setfiles_words}
use Rattle.tree_relabelling.specs.declared.TheConstants.{RESTORECON, SETFILES}
use Rattle.path_lookups.specs.Plan.{lookup_plan}
use Rattle.path_lookups.specs.Words.{lookup_words}
use Rattle.path_lookups.specs.declared.TheConstants.{MATCHPATHCON}
use Rattle.home_contexts.specs.Asked.{homes_words}
use Rattle.home_contexts.specs.Plan.{homes_plan}
use Rattle.home_contexts.specs.declared.TheConstants.{GENHOMEDIRCON}
use Rattle.policy_rehearsal.specs.Plan.{rehearse_plan}
use Rattle.policy_rehearsal.specs.Words.{rehearse_words}
use Rattle.policy_rehearsal.specs.declared.TheConstants.{REHEARSE_TOOL}
use Rattle.policy_rehearsal.specs.declared.words.RehearseWords.{RehearseWords}
use Rattle.sample_tree.specs.Plan.{sample_plan}
use Rattle.sample_tree.specs.Words.{sample_words}
use Rattle.sample_tree.specs.declared.TheConstants.{SAMPLE}
use Rattle.label_audit.specs.Plan.{audit_plan}
use Rattle.label_audit.specs.Words.{audit_words}
use Rattle.label_audit.specs.declared.TheConstants.{AUDIT}
use Rattle.relabel_commands.specs.declared.runs.TheConstants.{FIRST}
use Rattle.relabel_commands.specs.declared.runs.ToolName.{ToolName}
use Rattle.relabel_commands.specs.declared.runs.ToolName.TheVariants.{Setfiles, Restorecon}
use Rattle.relabel_commands.specs.declared.runs.ToolName.TheVariants.{Matchpathcon, Genhomedircon}
use Rattle.relabel_commands.specs.declared.runs.ToolName.TheVariants.{Rehearse, Sample, Audit}

-- the tool that a word names
abbrev pub tool_named : List ℕ → Option ToolName
tool_named word =
    if same_bytes word SETFILES.now then Some Setfiles
    else if same_bytes word RESTORECON.now then Some Restorecon
    else if same_bytes word MATCHPATHCON.now then Some Matchpathcon
    else if same_bytes word GENHOMEDIRCON.now then Some Genhomedircon
    else if same_bytes word REHEARSE_TOOL.now then Some Rehearse
    else if same_bytes word SAMPLE.now then Some Sample
    else if same_bytes word AUDIT.now then Some Audit
    else None

-- what the words behind a tool's name ask for: how they are read, and the plan of what they mean
abbrev pub asked_for : Option ToolName → List (List ℕ) → Result Plan Usage
asked_for (Some Setfiles) words = planned relabel_plan (setfiles_words FIRST words)
asked_for (Some Restorecon) words = planned relabel_plan (restorecon_words FIRST words)
asked_for (Some Matchpathcon) words = planned lookup_plan (lookup_words FIRST words)
asked_for (Some Genhomedircon) words = planned homes_plan (homes_words FIRST words)
asked_for (Some Rehearse) words = planned rehearse_plan (rehearse_words FIRST words)
asked_for (Some Sample) words = planned sample_plan (sample_words FIRST words)
asked_for (Some Audit) words = planned audit_plan (audit_words FIRST words)
asked_for None words = Err (usage 0 UnknownTool)

-- what all words ask for, or the first that is wrong
abbrev pub plan_of : List (List ℕ) → Result Plan Usage
plan_of [] = Err (usage 0 UnknownTool)
plan_of (tool ∷ words) = asked_for (tool_named tool) words

-- ---- words that ask for rehearse

abbrev pub words_unless_wrong : {W : Type 0} → Result W Usage → Option W
words_unless_wrong (Ok words) = Some words
words_unless_wrong (Err wrong) = None

abbrev pub rehearse_for : Option ToolName → List (List ℕ) → Option RehearseWords
rehearse_for (Some Rehearse) words = words_unless_wrong (rehearse_words FIRST words)
rehearse_for tool words = None

-- what all words ask of rehearse, where that is the tool that they name
abbrev pub rehearse_asked : List (List ℕ) → Option RehearseWords
rehearse_asked [] = None
rehearse_asked (tool ∷ words) = rehearse_for (tool_named tool) words
