-- Texts without an unescaped metacharacter.
use Rattle.std.specs.Prelude.{ℕ, Bool, true, ◌||◌, ◌&&◌, ◌==◌, not, List, [], ◌∷◌, if◌then◌else◌}
use Rattle.label_base.specs.Spelling.{byte}

-- one of . ^ $ ? * + | [ ( {
abbrev pub is_meta : ℕ → Bool
is_meta b = (b == byte ".") || (b == byte "^") || (b == byte "$") || (b == byte "?")
    || (b == byte "*") || (b == byte "+") || (b == byte "|")
    || (b == byte "[") || (b == byte "(") || (b == byte "{")

-- no metacharacter stands in the text other than directly after a backslash that escapes it
abbrev pub is_exact_text : List ℕ → Bool
is_exact_text [] = true
is_exact_text (b ∷ []) = not (is_meta b)
is_exact_text (b ∷ c ∷ bs) =
    if b == byte "\\" then is_exact_text bs else not (is_meta b) && is_exact_text (c ∷ bs)

-- a byte that stands for itself in a pattern, whatever is behind it
abbrev pub is_itself : ℕ → Bool
is_itself b = not (is_meta b || (b == byte "\\") || (b == byte ")") || (b == 0))
