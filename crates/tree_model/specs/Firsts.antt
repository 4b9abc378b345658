-- The first entry of each inode: how groups are numbered.
use Rattle.std.specs.Prelude.{◌≡◌, ℕ, ◌+◌, ◌*◌, ◌<◌, ◌^◌, ◌%◌, ◌/◌, nat_lt, true, List, length, map}
use Rattle.std.specs.Prelude.{get_or, Option, Some, None, if◌then◌else◌}
use Rattle.std.specs.BTreeMap as tree
use Rattle.std.specs.BTreeMap.{BTreeMap}
use Rattle.std.specs.List.{position_or_len}
use Rattle.std.specs.Ordering.{nat_cmp, ordering_then}
use Rattle.std.specs.declared.cmp.Ordering.{Ordering}
use Rattle.tree_model.specs.declared.firsts.TheConstants.{MIX}
use Rattle.tree_model.specs.Links.{same_inode}
use Rattle.tree_model.specs.GroupLists.{AreGroupHeads, AreNext}

-- where the inode is met first
abbrev pub first_with_inode : List (ℕ × ℕ) → ℕ × ℕ → ℕ
first_with_inode inodes inode = position_or_len (same_inode inode) inodes

-- for each entry the first one of its inode
abbrev pub firsts_of : List (ℕ × ℕ) → List ℕ
firsts_of inodes = map (first_with_inode inodes) inodes

-- ---- numbers of groups by first entries

-- the group of the next entry: a new one, unless its first entry has one
abbrev pub group_next : List ℕ → ℕ → ℕ → ℕ
group_next groups count first =
    if nat_lt first (length groups) then get_or groups first 0 else count

abbrev pub count_next : List ℕ → ℕ → ℕ → ℕ
count_next groups count first = if nat_lt first (length groups) then count else count + 1

-- ---- entries by buckets

-- the bucket of an inode, one of so many
unfoldable pub inode_bucket : ℕ → ℕ × ℕ → ℕ
inode_bucket count inode =
    ((inode.1 * MIX) % 2 ^ 64 + inode.0) % 2 ^ 64 * MIX % 2 ^ 64 / 2 ^ 32 % count

-- entries of one inode have one bucket, and each entry leads to the next one of its bucket
pub record AreBucketed (inodes : List (ℕ × ℕ)) (buckets first next : List ℕ) : Type 0 where
  pub count : length buckets ≡ length inodes
  pub few : length inodes < 2 ^ 32
  pub alike : (a b : ℕ) → a < length inodes → b < length inodes
      → same_inode (get_or inodes a (0, 0)) (get_or inodes b (0, 0)) ≡ true
      → get_or buckets a 0 ≡ get_or buckets b 0
  pub inside : (e : ℕ) → e < length buckets → get_or buckets e 0 < length first
  pub heads : AreGroupHeads buckets 0 first
  pub behind : AreNext buckets 0 next

-- ---- entries by an order

-- what is kept for an inode: its first entry, if that stands before e
abbrev pub first_before : List (ℕ × ℕ) → ℕ → ℕ × ℕ → Option ℕ
first_before inodes e inode =
    if nat_lt (first_with_inode inodes inode) e then Some (first_with_inode inodes inode) else None

-- the order of inodes
abbrev pub inode_cmp : ℕ × ℕ → ℕ × ℕ → Ordering
inode_cmp a b = ordering_then (nat_cmp a.0 b.0) (nat_cmp a.1 b.1)

-- the first entries before e, by their inodes
abbrev pub AreFirstsPut : List (ℕ × ℕ) → ℕ → BTreeMap (ℕ × ℕ) ℕ → Type 0
AreFirstsPut inodes e kept =
    (inode : ℕ × ℕ) → tree.get inode_cmp kept inode ≡ first_before inodes e inode
