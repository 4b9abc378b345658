-- The tables of a matcher: what its automaton says, as bits.
use Rattle.std.specs.Prelude.{◌≡◌, ℕ, zero, suc, ◌||◌, ◌+◌, ◌*◌, ◌/◌, ◌<◌, ◌==◌, Bool, false, List}
use Rattle.std.specs.Prelude.{length, map, Option, Some, None, slice_get}
use Rattle.std.specs.List.{list_any}
use Rattle.pattern_match.specs.Automaton.{Place}
use Rattle.pattern_match.specs.Class.{class_bytes}
use Rattle.pattern_match.specs.States.{bit}
use Rattle.pattern_match.specs.declared.class.Class.{Class}

-- the place may be followed by the one of this number
abbrev pub leads : Option Place → ℕ → Bool
leads None q = false
leads (Some place) q = list_any (λ n. n == q) place.next

abbrev pub ends : Option Place → Bool
ends None = false
ends (Some place) = place.is_last

abbrev pub has : Option Place → ℕ → Bool
has None b = false
has (Some place) b = list_any (λ c. c == b) place.bytes

abbrev pub bytes_in : Place → List ℕ
bytes_in place = place.bytes

-- a row of so many words for each place, with the places that may follow it; the places that end a
-- text; and the class of each place
pub record AreTables (width : ℕ) (follow accept : List ℕ) (classes : List Class)
    (places : List Place) : Type 0 where
  pub wide : width ≡ (length places + 63) / 64
  pub rows : length follow ≡ length places * width
  pub accepts : length accept ≡ width
  pub follows : (p q : ℕ) → p < length places → q < 64 * width
      → bit follow (64 * (p * width) + q) ≡ leads (slice_get places p) q
  pub last : (p : ℕ) → p < 64 * width → bit accept p ≡ ends (slice_get places p)
  pub bytes : map class_bytes classes ≡ map bytes_in places

-- some number below passes
abbrev pub any_under : (ℕ → Bool) → ℕ → Bool
any_under test zero = false
any_under test (suc n) = any_under test n || test n

-- some bit of a word passes
unfoldable pub any_bit : (ℕ → Bool) → Bool
any_bit test = any_under test 64
