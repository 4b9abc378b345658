-- The words of a template's fields, and what a user gives in their place.
use Rattle.std.specs.Prelude.{ℕ, zero, suc, ◌-◌, Bool, true, false, not, nat_eq, List, [], ◌∷◌}
use Rattle.std.specs.Prelude.{length, take, Option, Some, None, if◌then◌else◌}
use Rattle.std.specs.List.{flat_map, list_any, starts_with}
use Rattle.file_paths.specs.Path.{Path, path_text}
use Rattle.home_contexts.specs.Escaped.{pattern_escaped}
use Rattle.home_contexts.specs.User.{UserValue}
use Rattle.home_contexts.specs.declared.word.TheConstants.{HOME_DIR, HOME_ROOT, ROLE, USER}
use Rattle.home_contexts.specs.declared.word.Word.{Word}
use Rattle.home_contexts.specs.declared.word.Word.TheVariants.{HomeDir, HomeRoot, Role, User}
use Rattle.home_contexts.specs.declared.word.FieldPiece.{FieldPiece}
use Rattle.home_contexts.specs.declared.word.FieldPiece.TheVariants.{Byte, Stands}

abbrev pub word_text : Word → List ℕ
word_text HomeRoot = HOME_ROOT.now
word_text HomeDir = HOME_DIR.now
word_text Role = ROLE.now
word_text User = USER.now

abbrev pub begins_with : Word → List ℕ → Bool
begins_with word text = starts_with nat_eq text (word_text word)

-- the word that a text begins with
unfoldable pub template_word_at : List ℕ → Option Word
template_word_at text =
    if begins_with HomeRoot text then Some HomeRoot
    else if begins_with HomeDir text then Some HomeDir
    else if begins_with Role text then Some Role
    else if begins_with User text then Some User
    else None

-- ---- a field as bytes and words, which are found from left to right without overlap

abbrev pub piece_then : ℕ → Option Word → (ℕ → List FieldPiece) → List FieldPiece
piece_then b None rest = Byte b ∷ rest 0
piece_then b (Some word) rest = Stands word ∷ rest (length (word_text word) - 1)

-- skip bytes belong to the word before
unfoldable pub pieces_from : (skip : ℕ) → List ℕ → List FieldPiece
pieces_from skip [] = []
pieces_from (suc skip) (b ∷ bs) = pieces_from skip bs
pieces_from zero (b ∷ bs) = piece_then b (template_word_at (b ∷ bs)) (λ skip. pieces_from skip bs)

abbrev pub template_pieces : List ℕ → List FieldPiece
template_pieces field = pieces_from 0 field

-- ---- which words a field holds

abbrev pub is_root_word : Word → Bool
is_root_word HomeRoot = true
is_root_word HomeDir = false
is_root_word Role = false
is_root_word User = false

abbrev pub stands_for : (Word → Bool) → FieldPiece → Bool
stands_for p (Byte b) = false
stands_for p (Stands word) = p word

abbrev pub holds_word : (Word → Bool) → List ℕ → Bool
holds_word p field = list_any (stands_for p) (template_pieces field)

abbrev pub is_other : Word → Bool
is_other word = not (is_root_word word)

-- ---- what stands in their place

-- the path without its last name
abbrev pub root_of : Path → Path
root_of home = take (length home - 1) home

abbrev pub word_value : UserValue → Word → List ℕ
word_value user HomeRoot = path_text (root_of user.home)
word_value user HomeDir = path_text user.home
word_value user Role = user.role
word_value user User = user.name

-- in a pattern a value stands for itself alone
abbrev pub written_word : (in_pattern : Bool) → List ℕ → List ℕ
written_word in_pattern value = if in_pattern then pattern_escaped value else value

abbrev pub template_text : (in_pattern : Bool) → UserValue → FieldPiece → List ℕ
template_text in_pattern user (Byte b) = b ∷ []
template_text in_pattern user (Stands word) = written_word in_pattern (word_value user word)

abbrev pub filled : (in_pattern : Bool) → UserValue → List ℕ → List ℕ
filled in_pattern user field = flat_map (template_text in_pattern user) (template_pieces field)
