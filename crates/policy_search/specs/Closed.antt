-- The places of a search, closed under the bytes of texts.
use Rattle.std.specs.Prelude.{◌≡◌, ℕ, ◌+◌, ◌<◌, ◌≤◌, ◌⊎◌, List, [], ◌++◌, None, length}
use Rattle.pattern_match.specs.Onwards.{AreTextBytes}
use Rattle.policy_lists.specs.Numbered.{AreFurther, NodeList, list_at, lists_in}
use Rattle.policy_search.specs.Places.{IsAt, PlaceLeadsTo, Policies, place_at}
use Rattle.policy_search.specs.Stages.{next_stage}
use Rattle.policy_search.specs.declared.place.Place.{Place}
use Rattle.policy_search.specs.declared.search.Search.{Search}
use Rattle.policy_search.specs.declared.search.Wanted.{Wanted}
use Rattle.policy_search.specs.declared.search.Wanted.TheVariants.{All, Different, First}

-- further places and lists behind the others
pub record HasGrown (old new : Search) : Type 0 where
  pub lists : AreFurther (lists_in old.lists) (lists_in new.lists)
  pub more : List Place
  pub places : new.places.items ≡ old.places.items ++ more

-- places stand in the order of their depths, and none is deeper than by one byte than this
pub record AreOrdered (places : List Place) (from : ℕ) : Type 0 where
  pub rising : (p q : ℕ) → p ≤ q → q < length places
      → (place_at places p).depth ≤ (place_at places q).depth
  pub near : (q : ℕ) → q < length places
      → (place_at places q).depth ≤ (place_at places from).depth + 1

-- a byte leads from the place to one that was reached, no deeper than by one byte
pub record LeadsIn (ps : Policies) (lists : List NodeList) (places : List Place) (byte : ℕ)
    (place : Place) : Type 0 where
  pub number : ℕ
  pub within : number < length places
  pub depth : (place_at places number).depth ≤ place.depth + 1
  pub leads : PlaceLeadsTo ps lists byte place (place_at places number)

-- or no path's text goes on so
abbrev pub GoesOn : Policies → List NodeList → List Place → ℕ → Place → Type 0
GoesOn ps lists places byte place =
    (next_stage place.stage byte ≡ None) ⊎ LeadsIn ps lists places byte place

abbrev pub AllGoOn : Policies → List NodeList → List Place → Place → Type 0
AllGoOn ps lists places place =
    (byte : ℕ) → 0 < byte → byte < 256 → GoesOn ps lists places byte place

-- from such places a search doesn't go on
abbrev pub IsDropped : Wanted → List NodeList → Place → Type 0
IsDropped All lists place = ⊥
IsDropped Different lists place = place.first ≡ place.second
IsDropped First lists place = list_at lists place.first ≡ []

abbrev pub IsDone : Wanted → Policies → List NodeList → List Place → Place → Type 0
IsDone wanted ps lists places place =
    IsDropped wanted lists place ⊎ AllGoOn ps lists places place

-- the search went on from the first places, so many of them
abbrev pub AreDone : Wanted → Policies → List NodeList → List Place → ℕ → Type 0
AreDone wanted ps lists places count =
    (p : ℕ) → p < count → IsDone wanted ps lists places (place_at places p)

-- a text, or a front of it from which the search doesn't go on, leads to a place that is no deeper
-- than it is long
pub record Reaches (wanted : Wanted) (ps : Policies) (lists : List NodeList) (places : List Place)
    (text : List ℕ) : Type 0 where
  pub front : List ℕ
  pub rest : List ℕ
  pub whole : text ≡ front ++ rest
  pub number : ℕ
  pub within : number < length places
  pub depth : (place_at places number).depth ≤ length front
  pub at : IsAt ps lists (place_at places number) front
  pub stops : (rest ≡ []) ⊎ IsDropped wanted lists (place_at places number)
