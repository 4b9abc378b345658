-- The state of a tree between two versions, as it is kept.
use Rattle.std.specs.Prelude.{◌≡◌, ℕ, ◌+◌, ◌<◌, ◌^◌, false, List, length, None}
use Rattle.find_records.specs.Record.{AreOfFormat, Record}
use Rattle.tree_model.specs.Extents.{is_directory}
use Rattle.tree_model.specs.Groups.{groups_in}
use Rattle.tree_model.specs.Selection.{selected_by}
use Rattle.label_rules.specs.declared.rules.Rules.{Rules}
use Rattle.relabel_core.specs.Stored.{digests_of}
use Rattle.relabel_runs.specs.Runs.{TreeRun, TreeState, state_after, walk_at}
use Rattle.policy_rehearsal.specs.Lent.{turn_lent}
use Rattle.policy_rehearsal.specs.Rehearsal.{rehearsed_run, turn_in}
use Rattle.policy_rehearsal.specs.Seen.{labels_listed}
use Rattle.policy_rehearsal.specs.declared.rehearsal.RehearsalInput.{RehearsalInput}
use Rattle.policy_rehearsal.specs.declared.rehearsal.Standing.{Standing}
use Rattle.policy_rehearsal.specs.declared.rehearsal.Taken.{Taken}

-- what was selected is what the choice means, entries are of the format and can be numbered with
-- the operands, and labels are changed
pub record IsAsked (asked : RehearsalInput) : Type 0 where
  pub chosen : asked.chosen.now ≡ selected_by asked.choice.now asked.tree.now
  pub format : AreOfFormat asked.options.format asked.tree.now
  pub few : length asked.tree.now + length asked.choice.now.operands < 2 ^ 32
  pub wet : asked.options.dry ≡ false

abbrev pub run_asked : RehearsalInput → Rules → TreeRun
run_asked asked rules = rehearsed_run asked.choice.now asked.options rules

-- each group has a label, and directories alone have digests
pub record IsStandingKept (entries : List Record) (at : Standing) : Type 0 where
  pub each_group : length at.labels ≡ groups_in entries
  pub directories : (e : ℕ) → is_directory entries e ≡ false → digests_of at.stored e ≡ None

-- they are those of this state
pub record IsAt (entries : List Record) (s : TreeState) (at : Standing) : Type 0 where
  pub labels_are : (g : ℕ) → g < groups_in entries → labels_listed at.labels g ≡ s.labels g
  pub digests_are : digests_of at.stored ≡ s.digests

-- the turn of a run over the tree in this state, and what it leaves
pub record IsRunTaken (entries : List Record) (s : TreeState) (run : TreeRun) (taken : Taken) : Type
    0 where
  pub turn : turn_lent taken.turn ≡ turn_in (walk_at entries s run)
  pub left : IsAt entries (state_after entries s run) taken.left
