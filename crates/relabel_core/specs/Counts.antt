-- How many entries before another are names of groups whose labels change.
use Rattle.std.specs.Prelude.{◌≡◌, ℕ, ◌≤◌, ◌+◌, ◌⊎◌, true, false, List, length, filter, get_or}
use Rattle.std.specs.Prelude.{is_some}
use Rattle.label_base.specs.Bounded.{all_numbers}
use Rattle.relabel_core.specs.Stored.{no_digests}
use Rattle.relabel_core.specs.Walk.{Walk, walk_count, is_changed_name}

-- how many of the entries below n are names of a group whose label changes
abbrev pub changed_below : Walk → ℕ → ℕ
changed_below w n = length (filter (is_changed_name w) (all_numbers n))

-- the number at an index, or 0
abbrev pub count_at : List ℕ → ℕ → ℕ
count_at counts i = get_or counts i 0

-- for each entry below n, and for n, how many before it are
pub record AreWalkCounts (w : Walk) (n : ℕ) (counts : List ℕ) : Type 0 where
  pub sized : length counts ≡ n + 1
  pub each : (e : ℕ) → e ≤ n → count_at counts e ≡ changed_below w e

-- no digest can change
abbrev pub IsSpared : Walk → Type 0
IsSpared w = (w.options.dry ≡ true) ⊎ (w.stored ≡ no_digests)

-- these are counted, unless no digest can change
pub record AreNeededCounts (w : Walk) (counts : List ℕ) : Type 0 where
  pub counted : (d : ℕ) → w.options.dry ≡ false → is_some (w.stored d) ≡ true
      → AreWalkCounts w (walk_count w) counts
