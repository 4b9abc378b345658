-- What a walk keeps, and what contracts see of it.
use Rattle.std.specs.Prelude.{◌≡◌, ℕ, ◌<◌, ◌≤◌, ◌+◌, ◌^◌, List, [], length, map, get_or}
use Rattle.label_base.specs.Bounded.{least_below}
use Rattle.file_paths.specs.Path.{Path}
use Rattle.find_records.specs.Record.{Record}
use Rattle.tree_model.specs.Groups.{groups_in}
use Rattle.tree_model.specs.Selection.{SelectedValue, selected_by}
use Rattle.tree_model.specs.Tree.{ByPath}
use Rattle.relabel_core.specs.declared.options.Options.{Options}
use Rattle.tree_model.specs.declared.choice.Choice.{Choice}
use Rattle.relabel_core.specs.Formats.{HaveLinks}
use Rattle.relabel_core.specs.Numbers.{found_in}
use Rattle.relabel_core.specs.Stored.{digests_of}
use Rattle.relabel_core.specs.Walk.{StoredDigests, Walk, can_win, walk_count, deciding, winner}
use Rattle.relabel_core.specs.declared.input.WalkInput.{WalkInput}
use Rattle.label_rules.specs.declared.rules.Rules.{Rules}

-- the operands with these indices
abbrev pub operands_indexed : List Path → List ℕ → List Path
operands_indexed operands indices = map (λ i. get_or operands i []) indices

-- the walk that these mean
abbrev pub walk_of : WalkInput → Walk
walk_of input = record {
  entries = input.tree.now;
  live = input.chosen.now.live;
  absent = operands_indexed input.operands.now input.chosen.now.absent;
  rules = input.rules.now;
  options = input.options;
  stored = digests_of input.stored.now;
}

-- the walk over a tree of what a choice selects there
abbrev pub walk_for : List Record → Choice → Rules → Options → StoredDigests → Walk
walk_for entries choice rules options stored = record {
  entries = entries;
  live = (selected_by choice entries).live;
  absent = operands_indexed choice.operands (selected_by choice entries).absent;
  rules = rules;
  options = options;
  stored = stored;
}

-- what was selected tells of each entry, and of at most as many absent operands as there are
pub record IsFor (entries : List Record) (operands : List Path) (chosen : SelectedValue)
    : Type 0 where
  pub each_entry : length chosen.live ≡ length entries
  pub absent_few : length chosen.absent ≤ length operands

-- what is walked over goes together, in the order of paths, is of the format that the options tell,
-- and is few enough to be numbered in 32 bits
pub record IsFit (input : WalkInput) : Type 0 where
  pub by_path : ByPath input.tree.now
  pub selected : IsFor input.tree.now input.operands.now input.chosen.now
  pub format : HaveLinks input.options.format input.tree.now
  pub few : length input.tree.now + length input.operands.now < 2 ^ 32

-- what is found of all entries and groups, each at its position
pub record AreWalkAnswers (w : Walk) (decided winners : List ℕ) : Type 0 where
  pub decided_are : (e : ℕ) → e < walk_count w → found_in decided e ≡ deciding w e
  pub winners_are : (g : ℕ) → g < groups_in w.entries → found_in winners g ≡ winner w g

-- there is room for each entry and each group
pub record HasWalkRoom (w : Walk) (decided winners : List ℕ) : Type 0 where
  pub each_entry : length decided ≡ walk_count w
  pub each_group : length winners ≡ groups_in w.entries

-- what is noted when the entries below n were looked up: for each the specification that decides
-- it, and for each group its winner among them
pub record AreNoted (w : Walk) (n : ℕ) (decided winners : List ℕ) : Type 0 where
  pub each_entry : length decided ≡ walk_count w
  pub decided_are : (e : ℕ) → e < n → found_in decided e ≡ deciding w e
  pub each_group : length winners ≡ groups_in w.entries
  pub winners_are : (g : ℕ) → g < groups_in w.entries
      → found_in winners g ≡ least_below n (can_win w g)
