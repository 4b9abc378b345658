-- What a tree tells of its entries.
use Rattle.std.specs.Prelude.{◌≡◌, ℕ, ◌<◌, ◌≤◌, ◌^◌, Bool, List, length, get_or, Option, Some, None}
use Rattle.std.specs.List.{AllPairs, position}
use Rattle.std.specs.declared.cmp.Ordering.TheVariants.{Less}
use Rattle.file_paths.specs.Path.{Path, path_cmp}
use Rattle.find_records.specs.Places.{no_record}
use Rattle.find_records.specs.Record.{Record}
use Rattle.tree_model.specs.Entries.{same_path}
use Rattle.tree_model.specs.declared.fault.TreeFault.{TreeFault}
use Rattle.tree_model.specs.declared.fault.TreeFault.TheVariants.{Doubled, OutOfMemory}

-- the path of each entry is below those of the entries behind
abbrev pub ByPath : List Record → Type 0
ByPath entries = AllPairs (λ a b. path_cmp a.path b.path ≡ Less) entries

-- records that are the entries of a tree: in the order of their paths, and few enough to be
-- numbered in 32 bits
pub record IsTree (records : List Record) : Type 0 where
  pub by_path : ByPath records
  pub few : length records < 2 ^ 32

-- the numbers of two records that one path has; want of memory has none
abbrev pub tree_cause : TreeFault → Option (ℕ × ℕ)
tree_cause (Doubled first second) = Some (first, second)
tree_cause OutOfMemory = None

abbrev pub is_entry_at : Path → Record → Bool
is_entry_at path entry = same_path entry.path path

-- the index of the first entry whose path is not before this one
pub record IsFrom (path : Path) (entries : List Record) (first : ℕ) : Type 0 where
  pub upto : first ≤ length entries
  pub before : (e : ℕ) → e < first → path_cmp (get_or entries e no_record).path path ≡ Less
  pub behind : (e : ℕ) → first ≤ e → e < length entries
      → path_cmp (get_or entries e no_record).path path ≡ Less → ⊥

-- the place of the entry with this path
abbrev pub find_in : Path → List Record → Option ℕ
find_in path entries = position (is_entry_at path) entries
