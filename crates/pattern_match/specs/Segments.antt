-- Automata of few places as bits of words. The places of a part of a pattern stand one behind the
-- other, counted from the pattern's first: such a row of places is a segment.
use Rattle.std.specs.Prelude.{◌≡◌, ℕ, suc, ◌+◌, ◌<◌, ◌≤◌, ◌==◌, Bool, true, List, [], ◌∷◌, length}
use Rattle.std.specs.Prelude.{map}
use Rattle.std.specs.Int.{bit_at}
use Rattle.std.specs.List.{list_any, slice_index_or}
use Rattle.pattern_match.specs.Automaton.{Place, Automaton, moved, up}

abbrev pub in_word : ℕ → ℕ → Bool
in_word word k = bit_at word k == 1

abbrev pub among : List ℕ → ℕ → Bool
among numbers k = list_any (λ n. n == k) numbers

-- what stands at an index is the place: the row of those that follow, whether it is among the
-- places behind which a text may end, and its bytes
pub record IsPlaceWritten (rows : List ℕ) (last : ℕ) (bytes : List (List ℕ)) (index : ℕ)
    (place : Place)
    : Type 0 where
  pub follows : (k : ℕ) → k < 64
      → in_word (slice_index_or rows index 0) k ≡ among place.next k
  pub ends : in_word last index ≡ place.is_last
  pub takes : slice_index_or bytes index [] ≡ place.bytes

abbrev pub ArePlacesWritten : List ℕ → ℕ → List (List ℕ) → ℕ → List Place → Type 0
ArePlacesWritten rows last bytes index [] = Unit {0}
ArePlacesWritten rows last bytes index (place ∷ places) =
    IsPlaceWritten rows last bytes index place × ArePlacesWritten rows last bytes (suc index) places

-- the automaton stands in the rows from a start on, with its first and its last places as words
pub record IsSegment (rows : List ℕ) (bytes : List (List ℕ)) (start first last : ℕ)
    (holds_empty is_live : Bool) (a : Automaton) : Type 0 where
  pub places : ArePlacesWritten rows last bytes start (map (moved start) a.places)
  pub begins : (k : ℕ) → k < 64 → in_word first k ≡ among (up start a.first) k
  pub within : (p : ℕ) → in_word last p ≡ true
      → (start ≤ p) × (p < start + length a.places)
  pub empty : holds_empty ≡ a.holds_empty
  pub live : is_live ≡ a.is_live
