-- The text in which a path is kept, and what of a path can be seen there.
use Rattle.std.specs.Prelude.{◌≡◌, ℕ, ◌+◌, Bool, true, false, ◌&&◌, ◌||◌, ◌==◌, nat_eq, List, []}
use Rattle.std.specs.Prelude.{◌∷◌, length, drop, not, if◌then◌else◌}
use Rattle.std.specs.List.{starts_with}
use Rattle.std.specs.Ordering.{nat_cmp}
use Rattle.std.specs.Cmp.Lexicographic.{slice_cmp}
use Rattle.std.specs.declared.cmp.Ordering.{Ordering}
use Rattle.file_paths.specs.declared.path.TheConstants.{DOT, SLASH}
use Rattle.file_paths.specs.Path.{path_names, with_slashes, are_names}

-- a text is normal: a slash before each of its names, and nothing else
abbrev pub IsNormal : List ℕ → Type 0
IsNormal text = (with_slashes (path_names text) ≡ text) × (are_names (path_names text) ≡ true)

-- a name begins at the front of what is left of a text, and not with a dot
abbrev pub begins_plainly : List ℕ → Bool
begins_plainly [] = false
begins_plainly (b ∷ bs) = not (b == SLASH) && not (b == DOT)

-- behind each slash a name begins, and not with a dot
abbrev pub is_plain_path : List ℕ → Bool
is_plain_path [] = true
is_plain_path (b ∷ bs) = (not (b == SLASH) || begins_plainly bs) && is_plain_path bs

-- no name goes on at the front of what is left of a text
abbrev pub ends_name : List ℕ → Bool
ends_name [] = true
ends_name (b ∷ bs) = b == SLASH

-- the text begins with the top's, and goes on with another name, if at all
abbrev pub text_at_or_below : List ℕ → List ℕ → Bool
text_at_or_below text top = starts_with nat_eq text top && ends_name (drop (length top) text)

-- the place of a byte in the order of paths' texts: a slash below each other
abbrev pub byte_rank : ℕ → ℕ
byte_rank b = if b == SLASH then 0 else b + 1

-- the order of paths' texts
abbrev pub text_cmp : List ℕ → List ℕ → Ordering
text_cmp = slice_cmp (λ x y. nat_cmp (byte_rank x) (byte_rank y))
