-- Texts in a row.
use Rattle.std.specs.Prelude.{ℕ, zero, suc, ◌+◌, List, [], ◌++◌}

-- so many texts, from the one with the number first on
abbrev pub stretch : (ℕ → List ℕ) → (first count : ℕ) → List ℕ
stretch text first zero = []
stretch text first (suc n) = stretch text first n ++ text (first + n)
