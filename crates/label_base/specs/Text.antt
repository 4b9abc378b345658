-- Texts as lists of bytes.
use Rattle.std.specs.Prelude.{ℕ, Bool, true, false, List, [], ◌∷◌}
use Rattle.std.specs.Str.{bytes_eq}

abbrev pub is_nonempty : List ℕ → Bool
is_nonempty [] = false
is_nonempty (b ∷ bs) = true

-- the same bytes
abbrev pub same_bytes : List ℕ → List ℕ → Bool
same_bytes = bytes_eq
