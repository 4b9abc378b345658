-- Extents by their ends: the entries from one up to a place behind it. They nest.
use Rattle.std.specs.Prelude.{◌≡◌, ℕ, zero, suc, ◌<◌, ◌≤◌, ◌^◌, ◌==◌, ◌&&◌, nat_le, nat_lt, Bool}
use Rattle.std.specs.Prelude.{false, List, length, get_or, if◌then◌else◌}
use Rattle.label_base.specs.Bounded.{all_below, implies}
use Rattle.tree_model.specs.GroupLists.{AreGroups, AreGroupHeads, next_at}

-- ends has, for each entry, the place behind its extent
pub record AreEnds (ends : List ℕ) : Type 0 where
  pub few : length ends < 2 ^ 32
  pub behind : (d : ℕ) → d < length ends → d < get_or ends d 0
  pub within : (d : ℕ) → d < length ends → get_or ends d 0 ≤ length ends
  pub nested : (d c : ℕ) → d < length ends → d ≤ c → c < get_or ends d 0
      → get_or ends c 0 ≤ get_or ends d 0

-- the entry e is in the extent of d
abbrev pub within_extent : List ℕ → ℕ → ℕ → Bool
within_extent ends d e = nat_le d e && nat_lt e (get_or ends d 0)

-- all entries of the groups in the extent are in it
abbrev pub closed_extent : List ℕ → List ℕ → ℕ → Bool
closed_extent groups ends d =
    all_below (length groups) (λ e. implies (within_extent ends d e)
    (all_below (length groups) (λ x.
    implies (get_or groups x 0 == get_or groups e 0) (within_extent ends d x))))

-- the first entry of the entry's group
abbrev pub first_of_group : List ℕ → ℕ → ℕ
first_of_group groups e = next_at groups 0 (get_or groups e 0)

-- the last entry of the group among the first n; without one, 0
abbrev pub last_below : List ℕ → ℕ → ℕ → ℕ
last_below groups zero g = 0
last_below groups (suc n) g = if get_or groups n 0 == g then n else last_below groups n g

-- the last entry of the group
unfoldable pub last_at : List ℕ → ℕ → ℕ → ℕ
last_at groups n g = last_below groups n g

-- the last entry of the entry's group
abbrev pub last_name : List ℕ → ℕ → ℕ
last_name groups e = last_at groups (length groups) (get_or groups e 0)

-- lasts has the last entry of each group among the first n
pub record AreLasts (groups : List ℕ) (n : ℕ) (lasts : List ℕ) : Type 0 where
  pub last : (g : ℕ) → g < length lasts → get_or lasts g 0 ≡ last_at groups n g

-- the least of what f gives from a up to b
pub record IsLeastIn (f : ℕ → ℕ) (a b v : ℕ) : Type 0 where
  pub low : (k : ℕ) → a ≤ k → k < b → v ≤ f k
  pub place : ℕ
  pub from : a ≤ place
  pub upto : place < b
  pub met : f place ≡ v

-- the greatest of what f gives from a up to b
pub record IsGreatestIn (f : ℕ → ℕ) (a b v : ℕ) : Type 0 where
  pub high : (k : ℕ) → a ≤ k → k < b → f k ≤ v
  pub place : ℕ
  pub from : a ≤ place
  pub upto : place < b
  pub met : f place ≡ v

-- low has, for each entry from a place on, the least first entry of the groups in its extent
pub record AreLow (groups ends : List ℕ) (place : ℕ) (low : List ℕ) : Type 0 where
  pub sized : length low ≡ length groups
  pub least : (k : ℕ) → place ≤ k → k < length groups
      → IsLeastIn (first_of_group groups) k (get_or ends k 0) (get_or low k 0)

-- high has, for each entry from a place on, the greatest last entry of the groups in its extent
pub record AreHigh (groups ends : List ℕ) (place : ℕ) (high : List ℕ) : Type 0 where
  pub sized : length high ≡ length groups
  pub greatest : (k : ℕ) → place ≤ k → k < length groups
      → IsGreatestIn (last_name groups) k (get_or ends k 0) (get_or high k 0)

-- closed tells, for each entry from a place on, whether its extent is closed
pub record AreClosed (groups ends : List ℕ) (place : ℕ) (closed : List Bool) : Type 0 where
  pub sized : length closed ≡ length groups
  pub flags : (k : ℕ) → place ≤ k → k < length groups
      → get_or closed k false ≡ closed_extent groups ends k

-- groups in extents, with the first and the last entry of each group
pub record AreGroupExtents (groups ends first last : List ℕ) : Type 0 where
  pub groups_are : AreGroups (length first) groups
  pub ends_are : AreEnds ends
  pub paired : length ends ≡ length groups
  pub counted : length last ≡ length first
  pub first_are : AreGroupHeads groups 0 first
  pub last_are : AreLasts groups (length groups) last
