-- The lists of numbers that each worker has.
use Rattle.std.specs.Prelude.{ℕ, ◌+◌, ◌==◌, Bool, cond, List, [], ◌∷◌, ◌++◌, min, slice_index}
use Rattle.std.specs.Prelude.{slice_index_or, slice_set}
use Rattle.std.specs.List.{list_any}

abbrev pub is_in : ℕ → List ℕ → Bool
is_in number list = list_any (λ x. x == number) list

-- the list of a worker
abbrev pub list_of : List (List ℕ) → ℕ → List ℕ
list_of lists worker = slice_index_or lists worker []

-- the number at the end of the worker's list
abbrev pub added_to : List (List ℕ) → ℕ → ℕ → List (List ℕ)
added_to lists worker number = slice_set lists worker (list_of lists worker ++ number ∷ [])

-- the group's word no greater than the entry
abbrev pub lowered : List ℕ → ℕ → ℕ → List ℕ
lowered words group entry = slice_set words group (min (slice_index words group) entry)

-- 1 where the numbers are one, else 0
abbrev pub hit : ℕ → ℕ → ℕ
hit a b = cond (a == b) 1 0

-- how often the number stands in the list
abbrev pub times : ℕ → List ℕ → ℕ
times number [] = 0
times number (x ∷ xs) = hit x number + times number xs

-- and in all lists together
abbrev pub times_in_all : ℕ → List (List ℕ) → ℕ
times_in_all number [] = 0
times_in_all number (list ∷ lists) = times number list + times_in_all number lists
