-- What is left of a pattern once one of its byte sets has taken a byte.
use Rattle.std.specs.Prelude.{ℕ, zero, suc, pred, Bool, true, false, ◌||◌, ◌&&◌, ◌==◌, nat_le, List}
use Rattle.std.specs.Prelude.{[], ◌∷◌, ◌++◌, map, Option, Some, None, if◌then◌else◌}
use Rattle.pattern_syntax.specs.Tree.{Tree, Set, Nothing, Both, Either, Repeat}

abbrev pub is_some_list : {A : Type 0} → List A → Bool
is_some_list [] = false
is_some_list (x ∷ xs) = true

-- some number of times is allowed
abbrev pub is_count : ℕ → Option ℕ → Bool
is_count least None = true
is_count least (Some most) = nat_le least most

-- some text is in the language
abbrev pub has_texts : Tree → Bool
has_texts (Set bytes) = is_some_list bytes
has_texts Nothing = true
has_texts (Both first second) = has_texts first && has_texts second
has_texts (Either left right) = has_texts left || has_texts right
has_texts (Repeat least most piece) = is_count least most && ((least == 0) || has_texts piece)

-- a byte set, and what is left to match behind it
abbrev pub Residual : Type 0
Residual = List ℕ × Tree

abbrev pub followed_by : Tree → Residual → Residual
followed_by second residual = (residual.0, Both residual.1 second)

-- the residuals of a repeat, from those of its piece: behind the first copy of the piece, the
-- second and so on
abbrev pub of_copies : ℕ → ℕ → Tree → List Residual → List Residual
of_copies least zero piece rs = []
of_copies least (suc most) piece rs =
    map (followed_by (Repeat (pred least) (Some most) piece)) rs
    ++ of_copies (pred least) most piece rs

abbrev pub of_endless : ℕ → Tree → List Residual → List Residual
of_endless zero piece rs = map (followed_by (Repeat 0 None piece)) rs
of_endless (suc zero) piece rs = map (followed_by (Repeat 0 None piece)) rs
of_endless (suc (suc least)) piece rs =
    map (followed_by (Repeat (suc least) None piece)) rs ++ of_endless (suc least) piece rs

-- the byte sets of a pattern from left to right, repeats written out, each with its residual; a set
-- that leads to no text is left out
abbrev pub residuals : Tree → List Residual
residuals (Set []) = []
residuals (Set (b ∷ bs)) = (b ∷ bs, Nothing) ∷ []
residuals Nothing = []
residuals (Both first second) =
    if has_texts first && has_texts second
    then map (followed_by second) (residuals first) ++ residuals second
    else []
residuals (Either left right) = residuals left ++ residuals right
residuals (Repeat least None piece) = of_endless least piece (residuals piece)
residuals (Repeat least (Some most) piece) =
    if nat_le least most then of_copies least most piece (residuals piece) else []

-- with the whole pattern at the end, which is what is left before the first byte: there the byte 0
-- leads, which is in no text
abbrev pub all_residuals : Tree → List Residual
all_residuals tree = if has_texts tree then residuals tree ++ (0 ∷ [], tree) ∷ [] else []
