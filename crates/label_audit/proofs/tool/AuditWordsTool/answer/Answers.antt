use Rattle.std.proofs.Common.{◌∙◌, ap}
use Rattle.std.specs.Prelude.{option_map}
use Rattle.run_endings.specs.declared.ending.Ending.{Ending}
use Rattle.tool_runs.specs.Stages.{saved_name}
use Rattle.label_audit.proofs.AnswerLemmas.{saves_none}
use Rattle.label_audit.proofs.tool.AuditWordsTool.answer.Goals as goal

pub returns-clause-saved : goal.returns-clause-saved
returns-clause-saved c =
    ap (λ (ending : Ending). option_map saved_name ending.saved) c.in_ok-answer_of.ensures
    ∙ saves_none _ _ _
