-- Rows of numbers, in which a place may have none.
use Rattle.std.specs.Prelude.{◌≡◌, ◌≢◌, ℕ, ◌<◌, Bool, true, false, List, length, get_or, set}
use Rattle.std.specs.Prelude.{replicate}
use Rattle.std.specs.Prelude.{Option, Some, None, is_none, nat_lt, ◌==◌, ◌&&◌, if◌then◌else◌}
use Rattle.relabel_core.specs.declared.numbers.TheConstants.{NONE}

-- the index that a number stands for
abbrev pub as_found : ℕ → Option ℕ
as_found number = if number == NONE then None else Some number

-- the number at an index
abbrev pub found_in : List ℕ → ℕ → Option ℕ
found_in numbers i = as_found (get_or numbers i NONE)

-- the number that stands for an index, or for none
abbrev pub found_number : Option ℕ → ℕ
found_number None = NONE
found_number (Some number) = number

-- so many places without a number
abbrev pub no_numbers : ℕ → List ℕ
no_numbers count = replicate count NONE

-- a number put at an index where none is
abbrev pub entered_at : List ℕ → ℕ → ℕ → List ℕ
entered_at numbers i number =
    if nat_lt i (length numbers) && is_none (found_in numbers i)
    then set numbers i number
    else numbers

-- the same where the flag is set
abbrev pub entered_if : Bool → List ℕ → ℕ → ℕ → List ℕ
entered_if true numbers i number = entered_at numbers i number
entered_if false numbers i number = numbers

-- an item put at an index, if there is room for it
abbrev pub put_at : {A : Type 0} → List A → ℕ → A → List A
put_at items i item = if nat_lt i (length items) then set items i item else items

-- a number, or none, put at an index where there is room
pub record IsNumberPut (old new : List ℕ) (i : ℕ) (found : Option ℕ) : Type 0 where
  pub room : length new ≡ length old
  pub here : i < length old → found_in new i ≡ found
  pub others : (k : ℕ) → k ≢ i → found_in new k ≡ found_in old k
