-- What several versions of a policy change in one tree, one after the other: each begins with the
-- labels and the digests that those before it leave.
use Rattle.std.specs.Prelude.{◌≡◌, ℕ, List, [], ◌∷◌, length, filter, map, Option, Some, None}
use Rattle.std.specs.List.{filter_map}
use Rattle.label_base.specs.Bounded.{all_numbers}
use Rattle.context_syntax.specs.Context.{ContextValue}
use Rattle.context_syntax.specs.declared.label.Label.{Label}
use Rattle.find_records.specs.Record.{Record}
use Rattle.tree_model.specs.Groups.{groups_in, label_in}
use Rattle.tree_model.specs.declared.choice.Choice.{Choice}
use Rattle.label_rules.specs.declared.rules.Rules.{Rules}
use Rattle.relabel_core.specs.declared.options.Options.{Options}
use Rattle.relabel_core.specs.Changes.{change_at, label_before}
use Rattle.relabel_core.specs.Stored.{no_digests}
use Rattle.relabel_core.specs.Walk.{Walk, walk_count, is_skipped_first}
use Rattle.relabel_runs.specs.Premises.{AreTreeRuns}
use Rattle.relabel_runs.specs.Runs.{TreeRun, TreeState, state_after, end, end_off, walk_at}

-- an entry whose label changes, which is the first name of its inode for which a context is decided
pub record ChangeValue : Type 0 where
  pub entry : ℕ
  pub from : Label
  pub to : ContextValue

-- what one version changes, and how many directories it skips, without those below them
pub record TurnValue : Type 0 where
  pub changes : List ChangeValue
  pub skipped : ℕ

-- all turns, and the label of each group at the end
pub record RehearsedValue : Type 0 where
  pub turns : List TurnValue
  pub labels : List Label

-- the change of an entry's label to a context
abbrev pub change_to : Walk → ℕ → Option ContextValue → Option ChangeValue
change_to w e None = None
change_to w e (Some to) = Some (record { entry = e; from = label_before w e; to = to })

-- the changes of a walk, in the order of the entries
unfoldable pub changes_in : Walk → List ChangeValue
changes_in w = filter_map (λ e. change_to w e (change_at w e)) (all_numbers (walk_count w))

unfoldable pub skipped_in : Walk → ℕ
skipped_in w = length (filter (is_skipped_first w) (all_numbers (walk_count w)))

abbrev pub turn_in : Walk → TurnValue
turn_in w = record { changes = changes_in w; skipped = skipped_in w }

-- the tree as it is, without digests
abbrev pub bare_state : List Record → TreeState
bare_state entries = record { labels = label_in entries; digests = no_digests }

-- all versions are asked for the same
abbrev pub rehearsed_run : Choice → Options → Rules → TreeRun
rehearsed_run choice options rules = record { rules = rules; choice = choice; options = options }

abbrev pub runs_of : Choice → Options → List Rules → List TreeRun
runs_of choice options policies = map (rehearsed_run choice options) policies

-- the turns of runs over a tree in this state, each over what the one before it leaves
abbrev pub turns_from : List Record → TreeState → List TreeRun → List TurnValue
turns_from entries s [] = []
turns_from entries s (run ∷ runs) =
    turn_in (walk_at entries s run) ∷ turns_from entries (state_after entries s run) runs

abbrev pub rehearsed_by : List Record → List TreeRun → RehearsedValue
rehearsed_by entries runs = record {
  turns = turns_from entries (bare_state entries) runs;
  labels = map (end entries (bare_state entries) runs).labels (all_numbers (groups_in entries));
}

-- what these policies do to the entries that a choice means
abbrev pub rehearsed : List Record → Choice → Options → List Rules → RehearsedValue
rehearsed entries choice options policies =
    rehearsed_by entries (runs_of choice options policies)

-- where the files were accepted and no listings clash, skipping directories by their digests
-- changes none of these labels
abbrev pub RunsKeepLabels : List Record → List TreeRun → List Label → Type 0
RunsKeepLabels entries runs labels =
    AreTreeRuns entries runs
    → labels
    ≡ map (end_off entries (bare_state entries) runs).labels (all_numbers (groups_in entries))
