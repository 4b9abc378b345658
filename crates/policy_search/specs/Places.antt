-- Places: a stage of a path and a list of each of two policies.
use Rattle.std.specs.Prelude.{◌≡◌, ℕ, zero, suc, ◌+◌, ◌<◌, ◌≤◌, ◌⊎◌, List, [], ◌∷◌, ◌++◌}
use Rattle.std.specs.Prelude.{Some, length}
use Rattle.std.specs.List.{slice_index_or}
use Rattle.policy_lists.specs.Lists.{AreWithin, IsListOf}
use Rattle.policy_lists.specs.Numbered.{AreLists, NodeList, list_at, lists_in}
use Rattle.policy_lists.specs.Rows.{row_at}
use Rattle.policy_lists.specs.declared.line.Line.{Line}
use Rattle.policy_search.specs.Stages.{stage_behind, stage_number}
use Rattle.policy_search.specs.declared.place.Place.{Place}
use Rattle.policy_search.specs.declared.search.Aims.{Aims}
use Rattle.policy_search.specs.declared.search.Search.{Search}
use Rattle.policy_search.specs.declared.stage.Stage.TheVariants.{Empty}

-- what is searched
pub record Policies : Type 0 where
  pub lines : List Line
  pub first : List ℕ
  pub second : List ℕ

abbrev pub first_place : Place
first_place = record { stage = Empty; first = 0; second = 0; parent = 0; byte = 0; depth = 0 }

abbrev pub place_at : List Place → ℕ → Place
place_at places p = slice_index_or places p first_place

-- the place is that of the text
pub record IsAt (ps : Policies) (lists : List NodeList) (place : Place) (text : List ℕ) : Type 0
  where
    pub stage : stage_behind (Some Empty) text ≡ Some place.stage
    pub first : IsListOf ps.lines ps.first text (list_at lists place.first)
    pub second : IsListOf ps.lines ps.second text (list_at lists place.second)

-- behind whatever text the one place is that of, a byte leads to the other
abbrev pub PlaceLeadsTo : Policies → List NodeList → ℕ → Place → Place → Type 0
PlaceLeadsTo ps lists byte from to =
    (text : List ℕ) → IsAt ps lists from text → IsAt ps lists to (text ++ byte ∷ [])

-- the place is that of the empty text, or a byte leads to it from one that was reached before
pub record IsFirst (ps : Policies) (lists : List NodeList) (place : Place) : Type 0 where
  pub at : IsAt ps lists place []
  pub depth : place.depth ≡ 0

pub record IsNext (ps : Policies) (lists : List NodeList) (places : List Place) (p : ℕ)
    (place : Place) : Type 0 where
  pub before : place.parent < p
  pub depth : place.depth ≡ (place_at places place.parent).depth + 1
  pub leads : PlaceLeadsTo ps lists place.byte (place_at places place.parent) place

pub record IsPlaced (ps : Policies) (lists : List NodeList) (places : List Place) (p : ℕ)
    (place : Place) : Type 0 where
  pub first : place.first < length lists
  pub second : place.second < length lists
  pub low : place.depth ≤ p
  pub reached : IsFirst ps lists place ⊎ IsNext ps lists places p place

abbrev pub key_of : Place → List ℕ
key_of place = stage_number place.stage ∷ place.first ∷ place.second ∷ []

pub record ArePlaces (ps : Policies) (lists : List NodeList) (places : List Place)
    (rows : List (List ℕ)) : Type 0 where
  pub count : length rows ≡ length places
  pub keys : (p : ℕ) → p < length places → row_at rows p ≡ key_of (place_at places p)
  pub each : (p : ℕ) → p < length places → IsPlaced ps lists places p (place_at places p)

-- what a search holds is right
pub record IsSearch (ps : Policies) (s : Search) : Type 0 where
  pub lists : AreLists ps.lines s.lists
  pub places : ArePlaces ps (lists_in s.lists) s.places.items s.keys

-- a place was there by its key, or it is the one more that there is
pub record IsThere (keys new_keys : List (List ℕ)) (places new_places : List Place) (place : Place)
    : Type 0 where
  pub same_keys : new_keys ≡ keys
  pub same_places : new_places ≡ places
  pub number : ℕ
  pub within : number < length places
  pub key : row_at keys number ≡ key_of place

pub record IsOneMore (keys new_keys : List (List ℕ)) (places new_places : List Place)
    (place : Place) : Type 0 where
  pub more_keys : new_keys ≡ keys ++ key_of place ∷ []
  pub more_places : new_places ≡ places ++ place ∷ []

abbrev pub IsReached : List (List ℕ) → List (List ℕ) → List Place → List Place → Place → Type 0
IsReached keys new_keys places new_places place =
    IsThere keys new_keys places new_places place ⊎ IsOneMore keys new_keys places new_places place

abbrev pub policies : Aims → Policies
policies aims =
    record { lines = aims.lines.now; first = aims.first.now; second = aims.second.now }
