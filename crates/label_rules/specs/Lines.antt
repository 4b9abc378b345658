-- The lines that tell what becomes of a label.
use Rattle.std.specs.Prelude.{Bool, Option, Some, None, if◌then◌else◌}
use Rattle.file_paths.specs.Path.{Path}
use Rattle.context_syntax.specs.Context.{ContextValue, same_context}
use Rattle.context_syntax.specs.declared.label.Label.{Label}
use Rattle.context_syntax.specs.declared.label.Label.TheVariants as label_kinds
use Rattle.report_text.specs.Message.{MessageValue, Relabel, Customized, Conflict}
use Rattle.label_rules.specs.Decide as verdicts
use Rattle.label_rules.specs.Decide.{VerdictValue}

-- a label that is kept as customized is a context
abbrev pub customized_line : Path → Label → Option MessageValue
customized_line path label_kinds.Absent = None
customized_line path (label_kinds.Odd bytes) = None
customized_line path (label_kinds.Is context) = Some (Customized path context)

-- the line of a verdict on a label, told at this path
abbrev pub verdict_line : Path → Label → (dry : Bool) → VerdictValue → Option MessageValue
verdict_line path label dry verdicts.Keep = None
verdict_line path label dry verdicts.Customized = customized_line path label
verdict_line path label dry (verdicts.Change context) = Some (Relabel path label context dry)

-- the line of a name that is decided to the one context, where its group's winner is decided to the
-- other
abbrev pub conflict_line : (first second : Path) (context used : Option ContextValue)
    → Option MessageValue
conflict_line first second None used = None
conflict_line first second (Some context) None = None
conflict_line first second (Some context) (Some used) =
    if same_context context used then None else Some (Conflict first second used)
