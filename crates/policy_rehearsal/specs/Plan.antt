-- What rehearse reads, and what it answers.
use Rattle.std.specs.Prelude.{length, Some, None, Ok, false}
use Rattle.tool_runs.specs.Plan.{Plan, plan_by}
use Rattle.policy_rehearsal.specs.Answer.{rehearsal_of}
use Rattle.policy_rehearsal.specs.Files.{files_named, rules_read}
use Rattle.policy_rehearsal.specs.declared.words.RehearseWords.{RehearseWords}

-- nothing is saved
abbrev pub rehearse_plan : RehearseWords → Plan
rehearse_plan words = plan_by (files_named words.bases) (Some words.options.format) false None
    (rules_read (files_named words.bases) (length words.bases))
    (λ policies entries. Ok (rehearsal_of words policies entries))
