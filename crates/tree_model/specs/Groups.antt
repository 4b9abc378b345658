-- Groups: the entries of one device and one inode. They are numbered by their first entries.
use Rattle.std.specs.Prelude.{ℕ, Bool, true, ◌==◌, ◌&&◌, ◌||◌, nat_le, List, [], ◌∷◌, ◌++◌, length}
use Rattle.std.specs.Prelude.{map, filter, Option, Some, None, if◌then◌else◌}
use Rattle.std.specs.List.{list_any, position_or_len}
use Rattle.label_base.specs.Bounded.{all_below, all_numbers, least_below, implies}
use Rattle.context_syntax.specs.declared.label.Label.{Label}
use Rattle.context_syntax.specs.declared.label.Label.TheVariants.{Absent}
use Rattle.find_records.specs.Record.{Record}
use Rattle.tree_model.specs.Extents.{entry_at, in_extent, is_directory}
use Rattle.tree_model.specs.Links.{inode_of, same_inode}

-- one inode more behind the others, unless it is there
abbrev pub inode_added : List (ℕ × ℕ) → ℕ × ℕ → List (ℕ × ℕ)
inode_added seen inode = if list_any (same_inode inode) seen then seen else seen ++ inode ∷ []

-- those seen, and behind them the others, each once
abbrev pub inodes_behind : List (ℕ × ℕ) → List (ℕ × ℕ) → List (ℕ × ℕ)
inodes_behind seen [] = seen
inodes_behind seen (inode ∷ inodes) = inodes_behind (inode_added seen inode) inodes

-- each device and inode once, in the order of their first entries
abbrev pub inodes_of : List Record → List (ℕ × ℕ)
inodes_of entries = inodes_behind [] (map inode_of entries)

-- where the entry's inode stands among them
abbrev pub group_of : List Record → ℕ → ℕ
group_of entries e =
    position_or_len (same_inode (inode_of (entry_at entries e))) (inodes_of entries)

-- how many groups there are
abbrev pub groups_in : List Record → ℕ
groups_in entries = length (inodes_of entries)

-- the entries of the group, in ascending order
abbrev pub names_in : List Record → ℕ → List ℕ
names_in entries g = filter (λ e. group_of entries e == g) (all_numbers (length entries))

abbrev pub label_at : List Record → Option ℕ → Label
label_at entries None = Absent
label_at entries (Some e) = (entry_at entries e).label

-- the label of the least entry of the group; without one, none
abbrev pub label_in : List Record → ℕ → Label
label_in entries g = label_at entries (least_below (length entries) (λ e. group_of entries e == g))

-- every group that has an entry at or below d has all its entries there
abbrev pub holds_groups : List Record → ℕ → Bool
holds_groups entries d =
    all_below (length entries) (λ e. implies (in_extent entries d e)
    (all_below (length entries) (λ x.
    implies (group_of entries x == group_of entries e) (in_extent entries d x))))

-- the link count, where there is one, tells of no more names than these
abbrev pub is_met : Option ℕ → ℕ → Bool
is_met None names = true
is_met (Some links) names = nat_le links names

-- the group of the entry has at least as many entries as the entry's link count; that of a
-- directory counts no names
abbrev pub has_more_names : List Record → ℕ → Bool
has_more_names entries e =
    is_directory entries e
    || is_met (entry_at entries e).links (length (names_in entries (group_of entries e)))

-- no entry at or below d has a name that isn't among the entries
abbrev pub holds_names : List Record → ℕ → Bool
holds_names entries d =
    all_below (length entries) (λ e. implies (in_extent entries d e) (has_more_names entries e))

-- all names of what lies at or below d lie there
abbrev pub closed_at : List Record → ℕ → Bool
closed_at entries d = holds_groups entries d && holds_names entries d
