-- Groups as lists of numbers: how they are computed.
use Rattle.std.specs.Prelude.{◌≡◌, ℕ, suc, zero, ◌+◌, ◌<◌, ◌≤◌, ◌^◌, ◌==◌, List, [], ◌∷◌, ◌++◌}
use Rattle.std.specs.Prelude.{length, drop, get_or, if◌then◌else◌}
use Rattle.std.specs.List.{position_or_len}
use Rattle.tree_model.specs.Links.{same_inode}
use Rattle.tree_model.specs.Groups.{inode_added}

-- the group of each inode, behind those that were seen
abbrev pub groups_behind : List (ℕ × ℕ) → List (ℕ × ℕ) → List ℕ
groups_behind seen [] = []
groups_behind seen (inode ∷ inodes) =
    position_or_len (same_inode inode) seen ∷ groups_behind (inode_added seen inode) inodes

-- the place of the next entry of the group, where the groups stand from a place on; without one,
-- the end
abbrev pub next_from : ℕ → List ℕ → ℕ → ℕ
next_from place [] g = place
next_from place (x ∷ xs) g = if x == g then place else next_from (suc place) xs g

-- the places of the entries of the group, where the groups stand from a place on
abbrev pub group_names : ℕ → List ℕ → ℕ → List ℕ
group_names place [] g = []
group_names place (x ∷ xs) g =
    if x == g then place ∷ group_names (suc place) xs g else group_names (suc place) xs g

-- the next entry from a place on
unfoldable pub next_at : List ℕ → ℕ → ℕ → ℕ
next_at groups place g = next_from place (drop place groups) g

-- the entries from a place on
unfoldable pub names_at : List ℕ → ℕ → ℕ → List ℕ
names_at groups place g = group_names place (drop place groups) g

-- the entries of each group below k, one group behind the other
abbrev pub names_below : List ℕ → ℕ → List ℕ
names_below groups zero = []
names_below groups (suc k) = names_below groups k ++ names_at groups zero k

-- groups of entries: below so many, and few enough to be numbered in 32 bits
pub record AreGroups (count : ℕ) (groups : List ℕ) : Type 0 where
  pub inside : (e : ℕ) → e < length groups → get_or groups e 0 < count
  pub few : length groups < 2 ^ 32

-- heads has the next entry of each group from a place on
pub record AreGroupHeads (groups : List ℕ) (place : ℕ) (heads : List ℕ) : Type 0 where
  pub first : (g : ℕ) → g < length heads → get_or heads g 0 ≡ next_at groups place g

-- next has, for each entry from a place on, the next entry of its group
pub record AreNext (groups : List ℕ) (place : ℕ) (next : List ℕ) : Type 0 where
  pub sized : length next ≡ length groups
  pub behind : (e : ℕ) → place ≤ e → e < length groups
      → get_or next e 0 ≡ next_at groups (e + 1) (get_or groups e 0)

-- starts has, for each group below a number, where its entries begin among those of all
pub record AreGroupStarts (groups : List ℕ) (count : ℕ) (starts : List ℕ) : Type 0 where
  pub sized : length starts ≡ count
  pub begins : (g : ℕ) → g < count → get_or starts g 0 ≡ length (names_below groups g)
