-- What groups and absent operands are, beside how they are computed.
use Rattle.std.specs.Prelude.{◌≡◌, ◌↔◌, ℕ, ◌<◌, List, [], length, get_or, None}
use Rattle.std.specs.List.{AllPairs, Contains}
use Rattle.file_paths.specs.Path.{Path}
use Rattle.find_records.specs.Record.{Record}
use Rattle.tree_model.specs.Extents.{entry_at}
use Rattle.tree_model.specs.Groups.{group_of, groups_in}
use Rattle.tree_model.specs.Tree.{find_in}

-- two records tell one inode: one number on one device
pub record NameOneInode (a b : Record) : Type 0 where
  pub device : a.device ≡ b.device
  pub inode : a.inode ≡ b.inode

-- an entry of the group, before a place
pub record HasEntryBefore (entries : List Record) (place g : ℕ) : Type 0 where
  pub entry : ℕ
  pub before : entry < place
  pub own : group_of entries entry ≡ g

-- groups are inodes, numbered by their first entries
pub record GroupsAreInodes (entries : List Record) : Type 0 where
  -- two entries have one group just where they tell one inode
  pub same : (a b : ℕ) → a < length entries → b < length entries
      → (group_of entries a ≡ group_of entries b)
      ↔ NameOneInode (entry_at entries a) (entry_at entries b)
  -- each entry has one of the groups, and each group has an entry
  pub within : (e : ℕ) → e < length entries → group_of entries e < groups_in entries
  pub some : (g : ℕ) → g < groups_in entries → HasEntryBefore entries (length entries) g
  -- before an entry stands one of each lesser group
  pub first : (e g : ℕ) → e < length entries → g < group_of entries e → HasEntryBefore entries e g

-- these are the indices of the operands that no entry has, in ascending order
pub record AreAbsent (entries : List Record) (operands : List Path) (absent : List ℕ) : Type 0 where
  pub each : (i : ℕ) → Contains absent i
      ↔ ((i < length operands) × (find_in (get_or operands i []) entries ≡ None))
  pub rising : AllPairs (λ i j. i < j) absent
