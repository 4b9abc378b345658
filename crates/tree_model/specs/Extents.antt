-- What stands at or below an entry, among entries in the order of their paths, and the directory
-- above it.
use Rattle.std.specs.Prelude.{◌≡◌, ℕ, zero, suc, ◌+◌, ◌<◌, ◌≤◌, ◌==◌, nat_lt, Bool, ◌&&◌, List}
use Rattle.std.specs.Prelude.{length, get_or, Option, Some, None, if◌then◌else◌}
use Rattle.label_base.specs.Bounded.{greatest_below}
use Rattle.label_base.specs.Kind.{same_kind}
use Rattle.file_paths.specs.Path.{at_or_below, strictly_below}
use Rattle.label_base.specs.declared.kind.EntryKind.TheVariants.{Directory}
use Rattle.find_records.specs.Record.{Record}
use Rattle.find_records.specs.Places.{no_record}
use Rattle.tree_model.specs.declared.extents.TheConstants.{NO_PARENT}

-- the entry with this index
abbrev pub entry_at : List Record → ℕ → Record
entry_at entries e = get_or entries e no_record

-- the entry e is d, or lies below it
abbrev pub in_extent : List Record → ℕ → ℕ → Bool
in_extent entries d e = at_or_below (entry_at entries e).path (entry_at entries d).path

abbrev pub is_directory : List Record → ℕ → Bool
is_directory entries d = same_kind (entry_at entries d).kind Directory

-- d is a directory, and e lies below it
abbrev pub is_above : List Record → ℕ → ℕ → Bool
is_above entries e d =
    is_directory entries d && strictly_below (entry_at entries e).path (entry_at entries d).path

-- the nearest directory above the entry
abbrev pub parent_of : List Record → ℕ → Option ℕ
parent_of entries e = greatest_below (length entries) (is_above entries e)

-- one more than the number, or 0 where there is none
abbrev pub one_behind : Option ℕ → ℕ
one_behind None = 0
one_behind (Some e) = e + 1

-- one more than the index of the last entry at or below d
abbrev pub extent_of : List Record → ℕ → ℕ
extent_of entries d = one_behind (greatest_below (length entries) (in_extent entries d))

-- ---- how they are kept

-- the index is an entry's, and that entry is d or lies below it
abbrev pub is_inside : List Record → ℕ → ℕ → Bool
is_inside entries d c = nat_lt c (length entries) && in_extent entries d c

-- a number for each entry, which from the first one on is its extent
pub record EndsFrom (first : ℕ) (entries : List Record) (ends : List ℕ) : Type 0 where
  pub count : length ends ≡ length entries
  pub each : (e : ℕ) → first ≤ e → e < length entries → get_or ends e 0 ≡ extent_of entries e

-- the parent that a word tells
abbrev pub parent_read : ℕ → Option ℕ
parent_read word = if word == NO_PARENT then None else Some word

-- a word for each entry before the last one, which tells its parent
pub record ParentsTo (last : ℕ) (entries : List Record) (parents : List ℕ) : Type 0 where
  pub count : length parents ≡ last
  pub each : (e : ℕ) → e < last → parent_read (get_or parents e 0) ≡ parent_of entries e

-- the index before
abbrev pub before : ℕ → Option ℕ
before zero = None
before (suc e) = Some e
