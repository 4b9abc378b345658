-- What is reported of a rehearsal: where its changes lead, and that skipping is none of the
-- reasons.
use Rattle.std.specs.Prelude.{◌≡◌, ℕ, ◌==◌, List, [], ◌∷◌, length, map, IfSome, Option, Ok}
use Rattle.std.specs.Prelude.{if◌then◌else◌}
use Rattle.std.specs.Io.KnownBytes.{Appends}
use Rattle.label_base.specs.Bounded.{all_numbers}
use Rattle.context_syntax.specs.declared.label.Label.{Label}
use Rattle.context_syntax.specs.declared.label.Label.TheVariants.{Is}
use Rattle.find_records.specs.Record.{Record}
use Rattle.tree_model.specs.Groups.{group_of, groups_in, label_in}
use Rattle.label_rules.specs.declared.rules.Rules.{Rules}
use Rattle.input_output.specs.Store.{Files}
use Rattle.run_faults.specs.Causes.{IsReported}
use Rattle.run_faults.specs.declared.cause.Cause.{Cause}
use Rattle.run_input.specs.Records.{records_read}
use Rattle.policy_rehearsal.specs.Answer.{rehearsal_of}
use Rattle.policy_rehearsal.specs.Files.{files_named, rules_read}
use Rattle.relabel_runs.specs.Premises.{NoDigestClash}
use Rattle.relabel_runs.specs.Runs.{TreeRun, end_off}
use Rattle.policy_rehearsal.specs.Rehearsal.{ChangeValue, TurnValue, bare_state, rehearsed, runs_of}
use Rattle.policy_rehearsal.specs.declared.words.RehearseWords.{RehearseWords}

-- the label of a group behind a change of an entry's label
abbrev pub label_changed : List Record → (g : ℕ) → ChangeValue → Label → Label
label_changed entries g change label =
    if group_of entries change.entry == g then Is change.to else label

-- behind the changes of a turn
abbrev pub label_behind : List Record → (g : ℕ) → List ChangeValue → Label → Label
label_behind entries g [] label = label
label_behind entries g (change ∷ changes) label =
    label_behind entries g changes (label_changed entries g change label)

-- behind all turns
abbrev pub label_at_end : List Record → (g : ℕ) → List TurnValue → Label → Label
label_at_end entries g [] label = label
label_at_end entries g (turn ∷ turns) label =
    label_at_end entries g turns (label_behind entries g turn.changes label)

-- the labels of all groups once the changes of these turns are made in the tree
abbrev pub labels_at_end : List Record → List TurnValue → List Label
labels_at_end entries turns =
    map (λ g. label_at_end entries g turns (label_in entries g)) (all_numbers (groups_in entries))

-- these are the labels that the runs leave with skipping off, where no listings clash; nothing else
-- is supposed
abbrev pub LabelsUnlessClash : List Record → List TreeRun → List Label → Type 0
LabelsUnlessClash entries runs labels =
    NoDigestClash entries runs
    → labels
    ≡ map (end_off entries (bare_state entries) runs).labels (all_numbers (groups_in entries))

-- The report of words that ask for rehearse, by their files and their input: where no listings
-- clash, its changes lead to the labels that the same runs leave with skipping off.
pub record ReportKeeps (words : RehearseWords) (known : Files) (input : List ℕ)
    (IsReport : List ℕ → Type 0) : Type 0 where
  pub policies : List Rules
  pub entries : List Record
  pub files_say : (rules_read (files_named words.bases) (length words.bases) known).says
      ≡ Ok policies
  pub input_says : records_read words.options.format input ≡ Ok entries
  pub report : IsReport (rehearsal_of words policies entries).report
  pub keeps : LabelsUnlessClash entries (runs_of words.choice words.options policies)
      (labels_at_end entries (rehearsed entries words.choice words.options policies).turns)

-- so it is after a run by such words which wrote its report, where files, input and sink are known
abbrev pub ReportKeepsLabels : RehearseWords → Option Files → (input : Option (List ℕ))
    → (written written_now : Option (List ℕ)) → Cause → Type 0
ReportKeepsLabels words files input written written_now cause =
    IsReported cause → IfSome files (λ known. IfSome input (λ bytes.
    ReportKeeps words known bytes (Appends written written_now)))
