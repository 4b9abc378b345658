-- What a tree keeps of the groups of its entries.
use Rattle.std.specs.Prelude.{◌≡◌, ℕ, ◌+◌, ◌<◌, Bool, false, List, [], length, map, get_or}
use Rattle.find_records.specs.Record.{Record}
use Rattle.tree_model.specs.Extents.{EndsFrom}
use Rattle.tree_model.specs.GroupLists.{AreGroupStarts, groups_behind, names_below}
use Rattle.tree_model.specs.Groups.{closed_at, groups_in}
use Rattle.tree_model.specs.Jobs.{directories_in}
use Rattle.tree_model.specs.Links.{inode_of}
use Rattle.tree_model.specs.Tree.{ByPath}
use Rattle.tree_model.specs.declared.groups.Groups.{Groups}

-- the group of each entry, the entries group by group, and where those of each begin
pub record ListsGroups (entries : List Record) (groups names starts : List ℕ) : Type 0 where
  pub groups_are : groups ≡ groups_behind [] (map inode_of entries)
  pub names_are : names ≡ names_below groups (groups_in entries)
  pub starts_are : AreGroupStarts groups (groups_in entries + 1) starts

-- how many groups there are, their lists, and which extents are closed
pub record KeepsGroups (entries : List Record) (total : ℕ) (groups names starts : List ℕ)
    (closed : List Bool) : Type 0 where
  pub total_is : total ≡ groups_in entries
  pub lists : ListsGroups entries groups names starts
  pub count : length closed ≡ length entries
  pub closed_are : (d : ℕ) → d < length entries → get_or closed d false ≡ closed_at entries d

-- what a tree keeps beside its entries, which are in the order of their paths
pub record IsTreeKept (entries : List Record) (ends : List ℕ) (groups : Groups)
    (directories : List ℕ)
    : Type 0 where
  pub by_path : ByPath entries
  pub ends_are : EndsFrom 0 entries ends
  pub groups_are : KeepsGroups entries groups.total groups.group_of.items groups.names.items
      groups.starts.items groups.closed.items
  pub directories_are : directories ≡ directories_in entries
