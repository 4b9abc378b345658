-- What rehearse writes.
use Rattle.std.specs.Prelude.{ℕ, ◌==◌, List, [], ◌++◌, length, None, if◌then◌else◌}
use Rattle.find_records.specs.Record.{Record}
use Rattle.tree_model.specs.Selection.{selected_by}
use Rattle.label_rules.specs.declared.rules.Rules.{Rules}
use Rattle.relabel_core.specs.Report.{absent_text}
use Rattle.run_endings.specs.declared.ending.End.{End}
use Rattle.run_endings.specs.declared.ending.End.TheVariants.{Done, WalkErrors}
use Rattle.run_endings.specs.declared.ending.Ending.{Ending}
use Rattle.policy_rehearsal.specs.Rehearsal.{TurnValue, rehearsed}
use Rattle.policy_rehearsal.specs.Text.{rehearsal_text}
use Rattle.policy_rehearsal.specs.declared.words.RehearseWords.{RehearseWords}

-- the operands without an entry, unless they are ignored
abbrev pub absent_by : RehearseWords → List ℕ → List ℕ
absent_by words absent = if words.options.ignore_absent then [] else absent

-- they alone are errors
abbrev pub end_by : ℕ → End
end_by absent = if absent == 0 then Done else WalkErrors absent

-- the lines of the operands without an entry, then the turns
abbrev pub rehearse_ending : RehearseWords → List Record → (absent : List ℕ) → List TurnValue
    → Ending
rehearse_ending words entries absent turns = record {
  report = absent_text words.choice.operands absent ++ rehearsal_text entries words.bases turns;
  end = end_by (length absent);
  saved = None;
}

-- what is written of the policies' turns over the entries of the input
unfoldable pub rehearsal_of : RehearseWords → List Rules → List Record → Ending
rehearsal_of words policies entries =
    rehearse_ending words entries (absent_by words (selected_by words.choice entries).absent)
    (rehearsed entries words.choice words.options policies).turns
