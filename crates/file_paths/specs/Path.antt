-- Paths: lists of nonempty names without a slash and NUL.
use Rattle.std.specs.Prelude.{ℕ, Bool, true, false, ◌&&◌, ◌||◌, ◌==◌, List, [], ◌∷◌, length, not}
use Rattle.std.specs.Prelude.{if◌then◌else◌, nat_lt, filter, slice_index, Result, Ok, Err}
use Rattle.std.specs.List.{flat_map, list_any, list_all, starts_with, slice_split}
use Rattle.file_paths.specs.declared.path.TheConstants.{DOT, MOST_PATH_BYTES, SLASH}
use Rattle.file_paths.specs.declared.path_fault.PathWhy.{PathWhy}
use Rattle.file_paths.specs.declared.path_fault.PathWhy.TheVariants.{Empty, PathTooLong, HasNul}
use Rattle.file_paths.specs.declared.path_fault.PathWhy.TheVariants.{NotAbsolute, DotPart}
use Rattle.label_base.specs.Answers.{with_reason}
use Rattle.label_base.specs.Text.{is_nonempty, same_bytes}
use Rattle.std.specs.Ordering.{nat_cmp}
use Rattle.std.specs.Cmp.Lexicographic.{slice_cmp}
use Rattle.std.specs.declared.cmp.Ordering.{Ordering}

-- a byte that may stand in a name
abbrev pub is_name_byte : ℕ → Bool
is_name_byte b = not (b == SLASH) && not (b == 0)

-- nonempty, without a slash and NUL
abbrev pub is_name : List ℕ → Bool
is_name [] = false
is_name (b ∷ bs) = list_all is_name_byte (b ∷ bs)

abbrev pub are_names : List (List ℕ) → Bool
are_names names = list_all is_name names

abbrev pub Path : Type 0
Path = List (List ℕ)

-- the path is `/`
abbrev pub is_root_path : Path → Bool
is_root_path [] = true
is_root_path (name ∷ names) = false

abbrev pub is_slash : ℕ → Bool
is_slash b = b == SLASH

-- a slash before each name
abbrev pub with_slashes : Path → List ℕ
with_slashes path = flat_map (λ name. SLASH ∷ name) path

-- the text of a path
abbrev pub path_text : Path → List ℕ
path_text [] = SLASH ∷ []
path_text (name ∷ names) = with_slashes (name ∷ names)

-- the path is at or below the top
abbrev pub at_or_below : Path → Path → Bool
at_or_below path top = starts_with same_bytes path top

-- below the top, and not the same
abbrev pub strictly_below : Path → Path → Bool
strictly_below path top = at_or_below path top && nat_lt (length top) (length path)

-- the order of paths: a prefix first, else by the first name that differs
abbrev pub path_cmp : Path → Path → Ordering
path_cmp = slice_cmp (slice_cmp nat_cmp)

-- the pieces between the slashes that are not empty
abbrev pub path_names : List ℕ → Path
path_names bytes = filter is_nonempty (slice_split is_slash bytes)

abbrev pub is_dot_part : List ℕ → Bool
is_dot_part name = same_bytes name (DOT ∷ []) || same_bytes name (DOT ∷ DOT ∷ [])

-- the path that the bytes spell, or the first fault in the order of the faults
abbrev pub path_read : List ℕ → Result Path PathWhy
path_read bytes =
    if length bytes == 0 then Err Empty
    else if nat_lt MOST_PATH_BYTES (length bytes) then Err PathTooLong
    else if list_any (λ b. b == 0) bytes then Err HasNul
    else if not (slice_index bytes 0 == SLASH) then Err NotAbsolute
    else if list_any is_dot_part (path_names bytes) then Err DotPart
    else Ok (path_names bytes)

-- the same, refused for one reason whatever is wrong
abbrev pub path_or : {W : Type 0} → W → List ℕ → Result Path W
path_or why bytes = with_reason (λ _. why) (path_read bytes)
