use Rattle.std.proofs.Common.{◌≡◌, refl, subst, sym, Option, Some, Err}
use Rattle.label_base.specs.Answers.{Explains}
use Rattle.tool_words.specs.Words.{usage}
use Rattle.tool_words.specs.declared.usage.Usage.{Usage}
use Rattle.tool_words.specs.declared.usage.UsageWhy.TheVariants.{UnknownTool}
use Rattle.path_reasons.specs.declared.words.ExplainWords.{ExplainWords}
use Rattle.policy_commands.proofs.runs.refuse_tool.Goals as goal

explained : (why : Option Usage) → why ≡ Some (usage 0 UnknownTool)
    → Explains {V = ExplainWords} why (Err (usage 0 UnknownTool))
explained why is =
    subst (λ (o : Option Usage). Explains {V = ExplainWords} o (Err (usage 0 UnknownTool))) (sym is)
    refl

pub returns-clause-status : goal.returns-clause-status
returns-clause-status g c =
    c.run_words.ensures.status (Err (usage 0 UnknownTool)) (explained _ c.unknown_tool.ensures)

pub returns-clause-run : goal.returns-clause-run
returns-clause-run g c =
    c.run_words.ensures.run (Err (usage 0 UnknownTool)) (explained _ c.unknown_tool.ensures)
