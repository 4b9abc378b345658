-- Stems of texts, and the texts that may stand for paths below a first name.
use Rattle.std.specs.Prelude.{ℕ, zero, suc, Bool, ◌==◌, ◌&&◌, ◌||◌, not, List, [], ◌∷◌, Option}
use Rattle.std.specs.Prelude.{Some, None, get_or, if◌then◌else◌}
use Rattle.label_base.specs.Cut.{front, behind}
use Rattle.label_base.specs.Text.{same_bytes}
use Rattle.file_paths.specs.Path.{Path}
use Rattle.file_paths.specs.declared.path.TheConstants.{SLASH}

-- the name, where something stands behind its slash
abbrev pub name_before : List ℕ → Option (List ℕ) → List ℕ
name_before name None = []
name_before name (Some rest) = name

-- the stem of a text that begins with a slash, a nonempty name and a slash is that name; that of
-- any other text is empty: it has none
abbrev pub stem_of : List ℕ → List ℕ
stem_of [] = []
stem_of (b ∷ bs) =
    if b == SLASH
    then name_before (front (λ c. c == SLASH) bs) (behind (λ c. c == SLASH) bs)
    else []

-- the first name of a path; that of the root is empty
abbrev pub first_name : Path → List ℕ
first_name [] = []
first_name (name ∷ names) = name

abbrev pub is_none : List ℕ → Bool
is_none stem = same_bytes [] stem

-- there is a stem, and it is the name
abbrev pub is_stem : List ℕ → List ℕ → Bool
is_stem name stem = not (is_none stem) && same_bytes name stem

-- there is no stem, or it is the name
abbrev pub stem_fits : List ℕ → List ℕ → Bool
stem_fits name stem = is_none stem || is_stem name stem

abbrev pub stem_at : List (List ℕ) → ℕ → List ℕ
stem_at stems i = get_or stems i []

-- the indices below n of the stems that fit, in descending order
abbrev pub candidates_below : List (List ℕ) → ℕ → List ℕ → List ℕ
candidates_below stems zero name = []
candidates_below stems (suc n) name =
    if stem_fits name (stem_at stems n) then n ∷ candidates_below stems n name
    else candidates_below stems n name
