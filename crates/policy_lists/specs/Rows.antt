-- Rows of numbers, each told by its number.
use Rattle.std.specs.Prelude.{◌≡◌, ℕ, ◌<◌, List, [], ◌∷◌, ◌++◌, ◌⊎◌, length, map}
use Rattle.std.specs.List.{slice_index_or}
use Rattle.std.specs.Global.{Vec}

-- rows as they are kept
abbrev pub rows_in : List (Vec ℕ) → List (List ℕ)
rows_in rows = map (λ row. row.items) rows

abbrev pub row_at : List (List ℕ) → ℕ → List ℕ
row_at rows n = slice_index_or rows n []

-- further rows behind the others
abbrev pub AreMore : List (List ℕ) → List (List ℕ) → Type 0
AreMore old new = (more : List (List ℕ)) × (new ≡ old ++ more)

-- the row was there, or it is the one more that there is
pub record IsNumbered (old : List (List ℕ)) (row : List ℕ) (number : ℕ) (new : List (List ℕ))
    : Type 0 where
  pub is_row : row_at new number ≡ row
  pub place : ((new ≡ old) × (number < length old))
      ⊎ ((new ≡ old ++ row ∷ []) × (number ≡ length old))

-- the rows of these numbers
abbrev pub rows_at : List (List ℕ) → List ℕ → List (List ℕ)
rows_at rows numbers = map (row_at rows) numbers

-- each number is that of a row
abbrev pub AreRowNumbers : List (List ℕ) → List ℕ → Type 0
AreRowNumbers rows [] = Unit {0}
AreRowNumbers rows (n ∷ numbers) = (n < length rows) × AreRowNumbers rows numbers

-- the number is that of a row that is there now, and further ones may be
pub record IsAdded (old : List (List ℕ)) (row : List ℕ) (number : ℕ) (new : List (List ℕ)) : Type 0
  where
    pub more : AreMore old new
    pub within : number < length new
    pub is_row : row_at new number ≡ row
