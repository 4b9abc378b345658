-- Which entries a choice of paths selects.
use Rattle.std.specs.Prelude.{ℕ, suc, Bool, false, not, is_some, ◌==◌, ◌&&◌, ◌||◌, List, [], ◌∷◌}
use Rattle.std.specs.Prelude.{length, map, get_or, Option, Some, None, if◌then◌else◌}
use Rattle.std.specs.List.{list_any}
use Rattle.label_base.specs.Bounded.{all_below, all_numbers, implies}
use Rattle.file_paths.specs.Path.{Path, at_or_below}
use Rattle.find_records.specs.Record.{Record}
use Rattle.tree_model.specs.Extents.{entry_at, in_extent}
use Rattle.tree_model.specs.Groups.{closed_at}
use Rattle.tree_model.specs.Tree.{find_in}
use Rattle.tree_model.specs.declared.choice.Choice.{Choice}

-- every entry from o down to e has the device of o
abbrev pub stays_on : List Record → ℕ → ℕ → Bool
stays_on entries o e =
    all_below (length entries) (λ a. implies (in_extent entries o a && in_extent entries a e)
    ((entry_at entries a).device == (entry_at entries o).device))

-- the entry o of an operand admits the entry e
abbrev pub admits : Choice → List Record → ℕ → ℕ → Bool
admits choice entries o e =
    in_extent entries o e
    && ((choice.recurse || (o == e)) && (not choice.one_device || stays_on entries o e))

abbrev pub admits_found : Choice → List Record → Option ℕ → ℕ → Bool
admits_found choice entries None e = false
admits_found choice entries (Some o) e = admits choice entries o e

-- some of these operands has an entry that admits e
abbrev pub is_admitted : Choice → List Record → List Path → ℕ → Bool
is_admitted choice entries operands e =
    list_any (λ path. admits_found choice entries (find_in path entries) e) operands

-- the entry is at or below one of these paths
abbrev pub is_excluded : List Record → List Path → ℕ → Bool
is_excluded entries excluded e =
    list_any (λ path. at_or_below (entry_at entries e).path path) excluded

-- an operand admits the entry, and no excluded path is at or above it
abbrev pub is_chosen : Choice → List Record → ℕ → Bool
is_chosen choice entries e =
    is_admitted choice entries choice.operands e && not (is_excluded entries choice.excluded e)

-- the indices of the paths that no entry has, where they are counted from an index on
abbrev pub absent_from : ℕ → List Record → List Path → List ℕ
absent_from index entries [] = []
absent_from index entries (path ∷ paths) =
    if is_some (find_in path entries)
    then absent_from (suc index) entries paths
    else index ∷ absent_from (suc index) entries paths

-- for each entry whether it is live, and the operands without an entry
pub record SelectedValue : Type 0 where
  pub live : List Bool
  pub absent : List ℕ

abbrev pub selected_by : Choice → List Record → SelectedValue
selected_by choice entries = record {
  live = map (is_chosen choice entries) (all_numbers (length entries));
  absent = absent_from 0 entries choice.operands;
}

-- the entry's extent is closed, and all of it is live
abbrev pub whole_at : List Record → List Bool → ℕ → Bool
whole_at entries live d =
    closed_at entries d
    && all_below (length entries) (λ e. implies (in_extent entries d e) (get_or live e false))
