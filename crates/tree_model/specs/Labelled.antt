-- A tree with other labels, one for each group.
use Rattle.std.specs.Prelude.{◌≡◌, ℕ, Bool, List, length, map, get_or}
use Rattle.label_base.specs.Bounded.{all_numbers}
use Rattle.file_paths.specs.Path.{Path}
use Rattle.context_syntax.specs.declared.label.Label.{Label}
use Rattle.context_syntax.specs.declared.label.Label.TheVariants.{Absent}
use Rattle.find_records.specs.Labelled.{with_label}
use Rattle.find_records.specs.Record.{Record}
use Rattle.tree_model.specs.Extents.{entry_at, extent_of, is_directory, parent_of}
use Rattle.tree_model.specs.Groups.{group_of, groups_in}
use Rattle.tree_model.specs.Selection.{selected_by, whole_at}
use Rattle.tree_model.specs.Tree.{find_in}
use Rattle.tree_model.specs.declared.choice.Choice.{Choice}

-- the entry with the label of its group
abbrev pub labelled_at : List Label → List Record → ℕ → Record
labelled_at labels entries e =
    with_label (get_or labels (group_of entries e) Absent) (entry_at entries e)

-- the entries, each with the label of its group
abbrev pub labelled : List Label → List Record → List Record
labelled labels entries = map (labelled_at labels entries) (all_numbers (length entries))

-- of two trees all but the labels is the same; so what was made of the one serves the other: the
-- number of an entry, what was selected, whether all of a directory was, and what a group is
pub record DifferInLabels (old new : List Record) : Type 0 where
  pub count : length new ≡ length old
  pub paths : (e : ℕ) → (entry_at new e).path ≡ (entry_at old e).path
  pub kinds : (e : ℕ) → (entry_at new e).kind ≡ (entry_at old e).kind
  pub links : (e : ℕ) → (entry_at new e).links ≡ (entry_at old e).links
  pub directories : (e : ℕ) → is_directory new e ≡ is_directory old e
  pub found : (path : Path) → find_in path new ≡ find_in path old
  pub parents : (e : ℕ) → parent_of new e ≡ parent_of old e
  pub extents : (e : ℕ) → extent_of new e ≡ extent_of old e
  pub groups : (e : ℕ) → group_of new e ≡ group_of old e
  pub group_count : groups_in new ≡ groups_in old
  pub selected : (choice : Choice) → selected_by choice new ≡ selected_by choice old
  pub whole : (live : List Bool) (d : ℕ) → whole_at new live d ≡ whole_at old live d
