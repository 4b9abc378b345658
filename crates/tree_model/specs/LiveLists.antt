-- Flags of entries, and how they are kept.
use Rattle.std.specs.Prelude.{◌≡◌, ℕ, suc, ◌-◌, ◌<◌, ◌≤◌, ◌==◌, ◌&&◌, ◌||◌, Bool, true, false, not}
use Rattle.std.specs.Prelude.{List, [], ◌∷◌, ◌++◌, length, replicate, get_or}
use Rattle.label_base.specs.Bounded.{all_below, implies}
use Rattle.tree_model.specs.ExtentEnds.{within_extent}

-- the flags from one place up to another are this one, and the others stay
pub record IsFilled (from to : ℕ) (flag : Bool) (old new : List Bool) : Type 0 where
  pub sized : length new ≡ length old
  pub inside : (e : ℕ) → from ≤ e → e < to → e < length old → get_or new e false ≡ flag
  pub before : (e : ℕ) → e < from → e < length old → get_or new e false ≡ get_or old e false
  pub behind : (e : ℕ) → to ≤ e → e < length old → get_or new e false ≡ get_or old e false

-- the flags of the entries that pass are set, and the others stay
pub record AreMarkedLive (passes : ℕ → Bool) (old new : List Bool) : Type 0 where
  pub sized : length new ≡ length old
  pub marks : (e : ℕ) → e < length old → get_or new e false ≡ (get_or old e false || passes e)

-- the flags of the entries that pass are cleared, and the others stay
pub record IsCleared (passes : ℕ → Bool) (old new : List Bool) : Type 0 where
  pub sized : length new ≡ length old
  pub clears : (e : ℕ) → e < length old
      → get_or new e false ≡ (get_or old e false && not (passes e))

-- every entry from o down to e has what f gives for o, among entries in extents
abbrev pub stays_in : List ℕ → (ℕ → ℕ) → ℕ → ℕ → Bool
stays_in ends f o e =
    all_below (length ends) (λ a. implies (within_extent ends o a && within_extent ends a e)
    (f a == f o))

-- the flags before c of the entries from o down that stay with o are set, and no entry whose extent
-- has c leaves o
pub record IsMarkedTo (ends : List ℕ) (f : ℕ → ℕ) (o c : ℕ) (old new : List Bool) : Type 0 where
  pub sized : length new ≡ length old
  pub before : (e : ℕ) → e < c → e < length old
      → get_or new e false ≡ (get_or old e false || (within_extent ends o e && stays_in ends f o e))
  pub behind : (e : ℕ) → c ≤ e → e < length old → get_or new e false ≡ get_or old e false
  pub clear : (a : ℕ) → o ≤ a → a < c → c < get_or ends a 0 → f a ≡ f o

-- the least place from e on without a flag
pub record IsDead (live : List Bool) (e dead : ℕ) : Type 0 where
  pub low : e ≤ dead
  pub high : dead ≤ length live
  pub lives : (k : ℕ) → e ≤ k → k < dead → get_or live k false ≡ true
  pub dies : dead < length live → get_or live dead false ≡ false

-- one more than the last place without a flag, or 0
pub record IsBehindDead (live : List Bool) (place : ℕ) : Type 0 where
  pub within : place ≤ length live
  pub lives : (k : ℕ) → place ≤ k → k < length live → get_or live k false ≡ true
  pub last : 0 < place → get_or live (place - 1) false ≡ false

-- dead ends with the last place without a flag, and for each entry from a place on it has the least
-- one from that on
pub record AreDead (live : List Bool) (place : ℕ) (dead : List ℕ) : Type 0 where
  pub ends : IsBehindDead live (length dead)
  pub each : (e : ℕ) → place ≤ e → e < length dead → IsDead live e (get_or dead e 0)

-- the flags, where the places without one are those that name themselves
abbrev pub live_from : ℕ → List ℕ → List Bool
live_from place [] = []
live_from place (dead ∷ rest) = not (dead == place) ∷ live_from (suc place) rest

-- the same, and behind them each of so many entries has a flag
unfoldable pub live_of : List ℕ → ℕ → List Bool
live_of dead count = live_from 0 dead ++ replicate (count - length dead) true

-- the flags of so many entries are kept by these places
pub record KeepsFlags (live : List Bool) (dead : List ℕ) (count : ℕ) : Type 0 where
  pub count_is : count ≡ length live
  pub dead_are : AreDead live 0 dead

-- the flags of so many entries are what a test tells of them
pub record AreFlags (count : ℕ) (test : ℕ → Bool) (live : List Bool) : Type 0 where
  pub sized : length live ≡ count
  pub each : (e : ℕ) → e < count → get_or live e false ≡ test e
