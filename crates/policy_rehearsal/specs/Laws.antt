-- What is told leads to the labels at the end, which skipping doesn't change.
use Rattle.std.specs.Prelude.{◌≡◌, ℕ, List, Ok}
use Rattle.input_output.specs.Store.{Files}
use Rattle.find_records.specs.Record.{Record}
use Rattle.run_endings.specs.declared.ending.Ending.{Ending}
use Rattle.relabel_runs.specs.Runs.{TreeRun}
use Rattle.policy_rehearsal.specs.Plan.{rehearse_plan}
use Rattle.policy_rehearsal.specs.Rehearsal.{rehearsed_by}
use Rattle.policy_rehearsal.specs.Reported.{ReportKeeps, labels_at_end}
use Rattle.policy_rehearsal.specs.declared.words.RehearseWords.{RehearseWords}

-- the changes of the turns, made one after the other, leave the labels at the end
abbrev pub ChangesLeadThere : Type 0
ChangesLeadThere =
    (entries : List Record) (runs : List TreeRun)
    → labels_at_end entries (rehearsed_by entries runs).turns
    ≡ (rehearsed_by entries runs).labels

-- whatever is asked for and whatever the files and the input are: so it is where they are answered
abbrev pub AnswersKeepLabels : Type 0
AnswersKeepLabels =
    (words : RehearseWords) (known : Files) (input : List ℕ) (ending : Ending)
    → (rehearse_plan words).answer known input ≡ Ok ending
    → ReportKeeps words known input (λ report. ending.report ≡ report)
