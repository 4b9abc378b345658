-- What explain reads, and what it answers.
use Rattle.std.specs.Prelude.{List, None, Ok, false}
use Rattle.file_roles.specs.declared.list.NamedFile.{NamedFile}
use Rattle.policy_files.specs.Names.{policy_names}
use Rattle.tool_runs.specs.Plan.{Plan, plan_by}
use Rattle.path_reasons.specs.Answer.{explained_ending}
use Rattle.path_reasons.specs.Policy.{policy_lines}
use Rattle.path_reasons.specs.declared.words.ExplainWords.{ExplainWords}

abbrev pub explain_names : ExplainWords → List NamedFile
explain_names words = policy_names 0 words.base

abbrev pub explain_plan : ExplainWords → Plan
explain_plan words = plan_by (explain_names words) None false None
    (policy_lines (explain_names words))
    (λ lines entries. Ok (explained_ending (explain_names words) words lines))
