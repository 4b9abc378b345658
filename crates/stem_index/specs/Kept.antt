-- What finds the texts of a stem.
use Rattle.std.specs.Prelude.{◌≡◌, ℕ, ◌<◌, ◌≤◌, ◌^◌, List, length, get_or, Option, None}
use Rattle.std.specs.declared.vec.Vec.{Vec}
use Rattle.label_base.specs.Bounded.{greatest_below}
use Rattle.label_base.specs.NumberUnder.{number_under}
use Rattle.label_base.specs.Text.{same_bytes}
use Rattle.stem_index.specs.Stems.{is_none, is_stem, stem_at}

-- the last of the first n texts with this stem
abbrev pub last_stem_with : List (List ℕ) → ℕ → List ℕ → Option ℕ
last_stem_with stems n stem = greatest_below n (λ i. same_bytes stem (stem_at stems i))

-- under each stem stands the last text that has it, and with each text the one before it that has
-- its stem
pub record AreStemsKept {A : Type 0} (stems : List (List ℕ)) (entries : List (Vec ℕ A × ℕ))
    (before : List (Option ℕ)) : Type 0 where
  pub last : (stem : List ℕ) → number_under stem entries ≡ last_stem_with stems (length stems) stem
  pub sized : length before ≡ length stems
  pub links : (i : ℕ) → i < length stems
      → get_or before i None ≡ last_stem_with stems i (stem_at stems i)
  pub few : length stems < 2 ^ 32

-- below a bound, the last text without a stem and the last one with this name for its stem
pub record AreStemHeads (stems : List (List ℕ)) (name : List ℕ) (bound : ℕ)
    (free own : Option ℕ) : Type 0 where
  pub within : bound ≤ length stems
  pub free_is : free ≡ greatest_below bound (λ i. is_none (stem_at stems i))
  pub own_is : own ≡ greatest_below bound (λ i. is_stem name (stem_at stems i))
