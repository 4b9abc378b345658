-- The shape that every pattern's tree has.
use Rattle.std.specs.Prelude.{◌≡◌, ℕ, ◌+◌, Bool, true, false, ◌&&◌, List, [], ◌∷◌}
use Rattle.std.specs.List.{list_all}
use Rattle.pattern_syntax.specs.Classes.{is_text_byte}
use Rattle.pattern_syntax.specs.ByteSet.{bytes_with}
use Rattle.pattern_syntax.specs.Escapes.{EscapeItem, One, Class}
use Rattle.pattern_syntax.specs.Tree.{Tree, Set, Nothing, Both, Either, Repeat}

-- each set has a byte
abbrev pub HasNoEmptySet : Tree → Type 0
HasNoEmptySet (Set []) = ⊥
HasNoEmptySet (Set (b ∷ bs)) = Unit {0}
HasNoEmptySet Nothing = Unit {0}
HasNoEmptySet (Both first second) = HasNoEmptySet first × HasNoEmptySet second
HasNoEmptySet (Either left right) = HasNoEmptySet left × HasNoEmptySet right
HasNoEmptySet (Repeat least most piece) = HasNoEmptySet piece

abbrev pub is_sequence : Tree → Bool
is_sequence (Set bytes) = false
is_sequence Nothing = true
is_sequence (Both first second) = true
is_sequence (Either left right) = false
is_sequence (Repeat least most piece) = false

-- one byte or more, all of them bytes of texts
abbrev pub is_proper_set : List ℕ → Bool
is_proper_set [] = false
is_proper_set (b ∷ bs) = list_all is_text_byte (b ∷ bs)

abbrev pub are_text_bytes : List ℕ → Bool
are_text_bytes bytes = list_all is_text_byte bytes

-- each set is proper, and what stands before the last piece of a sequence is a sequence
abbrev pub is_proper : Tree → Bool
is_proper (Set bytes) = is_proper_set bytes
is_proper Nothing = true
is_proper (Both first second) = is_sequence first && (is_proper first && is_proper second)
is_proper (Either left right) = is_proper left && is_proper right
is_proper (Repeat least most piece) = is_proper piece

abbrev pub IsProperItem : EscapeItem → Type 0
IsProperItem (One b) = is_text_byte b ≡ true
IsProperItem (Class has) = is_proper_set (bytes_with has) ≡ true

-- a sequence, or a choice of several
abbrev pub is_choice : Tree → Bool
is_choice (Either left right) = true
is_choice (Set bytes) = false
is_choice Nothing = true
is_choice (Both first second) = true
is_choice (Repeat least most piece) = false

-- how many nodes a tree has
abbrev pub tree_size : Tree → ℕ
tree_size (Set bytes) = 1
tree_size Nothing = 1
tree_size (Both first second) = tree_size first + tree_size second + 1
tree_size (Either left right) = tree_size left + tree_size right + 1
tree_size (Repeat least most piece) = tree_size piece + 1

abbrev pub stack_size : List Tree → ℕ
stack_size [] = 0
stack_size (tree ∷ stack) = tree_size tree + stack_size stack
