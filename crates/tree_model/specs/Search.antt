-- How far a search for a path has come among entries.
use Rattle.std.specs.Prelude.{◌≡◌, ℕ, ◌<◌, ◌≤◌, nat_lt, Bool, ◌&&◌, List, length}
use Rattle.std.specs.Ordering.{is_lt}
use Rattle.std.specs.declared.cmp.Ordering.TheVariants.{Less}
use Rattle.file_paths.specs.Path.{Path, path_cmp}
use Rattle.find_records.specs.Record.{Record}
use Rattle.tree_model.specs.Extents.{entry_at}
use Rattle.tree_model.specs.Tree.{is_entry_at}

-- the paths of the entries below the low bound are before this one, and of those from the high
-- bound on none is
pub record IsBetween (path : Path) (entries : List Record) (low high : ℕ) : Type 0 where
  pub order : low ≤ high
  pub within : high ≤ length entries
  pub before : (e : ℕ) → e < low → path_cmp (entry_at entries e).path path ≡ Less
  pub behind : (e : ℕ) → high ≤ e → e < length entries
      → path_cmp (entry_at entries e).path path ≡ Less → ⊥

-- there is an entry with this index, and it has this path
abbrev pub stands_at : Path → List Record → ℕ → Bool
stands_at path entries e = nat_lt e (length entries) && is_entry_at path (entry_at entries e)

-- the path of the entry is before this one
abbrev pub is_before : Path → List Record → ℕ → Bool
is_before path entries e = is_lt (path_cmp (entry_at entries e).path path)
