-- Which extents are closed, found from the last entry to the first.
use Rattle.std.specs.Prelude.{◌≡◌, ℕ, ◌<◌, ◌≤◌, Bool, false, List, length, map, get_or, None}
use Rattle.label_base.specs.Bounded.{all_numbers}
use Rattle.find_records.specs.Record.{Record}
use Rattle.tree_model.specs.Extents.{entry_at}
use Rattle.tree_model.specs.Groups.{closed_at, has_more_names, holds_groups}

-- no entry has a link count
abbrev pub AreUncounted : List Record → Type 0
AreUncounted entries = (e : ℕ) → e < length entries → (entry_at entries e).links ≡ None

-- for each entry whether its group has all names that its link count tells
abbrev pub names_flags : List Record → List Bool
names_flags entries = map (has_more_names entries) (all_numbers (length entries))

-- the flags of the extents before a place tell whether all groups lie there, and those of the
-- others whether all names do
pub record AreClosedFrom (entries : List Record) (place : ℕ) (closed : List Bool) : Type 0 where
  pub sized : length closed ≡ length entries
  pub before : (d : ℕ) → d < place → d < length entries
      → get_or closed d false ≡ holds_groups entries d
  pub behind : (d : ℕ) → place ≤ d → d < length entries
      → get_or closed d false ≡ closed_at entries d
