-- The text that was read last, and the list behind each of its bytes.
use Rattle.std.specs.Prelude.{◌≡◌, ℕ, zero, suc, ◌<◌, ◌≤◌, List, length, slice_index, take}
use Rattle.spec_match.specs.Alive.{Alive, alive_list}
use Rattle.spec_match.specs.declared.trail.Trail.{Trail}

-- a text, the numbers of the lists behind its bytes, and of how many bytes these are known
pub record Trace : Type 0 where
  pub text : List ℕ
  pub lists : List ℕ
  pub known : ℕ

abbrev pub trace_in : Trail → Trace
trace_in t = record { text = t.text.items; lists = t.lists.items; known = t.known }

-- the number of the list behind so many bytes
abbrev pub list_behind : List ℕ → ℕ → ℕ
list_behind lists zero = 0
list_behind lists (suc k) = slice_index lists k

-- the number at a place is that of a list for the bytes up to there
pub record IsRightAt (IsFor : List ℕ → List Alive → Type 0) (lists : List (List Alive))
    (text numbers : List ℕ) (k : ℕ) : Type 0 where
  pub within : slice_index numbers k < length lists
  pub listed : IsFor (take (suc k) text) (alive_list lists (slice_index numbers k))

-- so are all numbers before a place
abbrev pub AreRightTo : (List ℕ → List Alive → Type 0) → List (List Alive) → List ℕ → List ℕ
    → ℕ → Type 0
AreRightTo IsFor lists text numbers count =
    (k : ℕ) → k < count → k < length numbers → IsRightAt IsFor lists text numbers k

pub record IsTrail (IsFor : List ℕ → List Alive → Type 0) (lists : List (List Alive))
    (trace : Trace) : Type 0 where
  pub short : trace.known ≤ length trace.text
  pub right : AreRightTo IsFor lists trace.text trace.lists trace.known

-- the text was read up to a place, behind which a list is
pub record IsTrailRead (IsFor : List ℕ → List Alive → Type 0) (lists : List (List Alive))
    (text : List ℕ) (numbers : List ℕ) (at list : ℕ) : Type 0 where
  pub inside : at ≤ length text
  pub within : list < length lists
  pub listed : IsFor (take at text) (alive_list lists list)
  pub right : AreRightTo IsFor lists text numbers at

-- the trail is one of a text that was read up to a place
pub record IsOnWay (IsFor : List ℕ → List Alive → Type 0) (lists : List (List Alive))
    (text : List ℕ) (trace : Trace) (at list : ℕ) : Type 0 where
  pub read : IsTrailRead IsFor lists text trace.lists at list
  pub same : trace.text ≡ take (length trace.text) text
  pub short : trace.known ≤ length trace.text
  pub low : trace.known ≤ at

-- each entry is the number of a list
abbrev pub AreNumbers : ℕ → List ℕ → Type 0
AreNumbers count row = (p : ℕ) → slice_index row p < count
