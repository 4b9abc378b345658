-- A pattern cut behind the bytes that it begins with.
use Rattle.std.specs.Prelude.{◌≡◌, ℕ, List, Option, Some, None}
use Rattle.pattern_syntax.specs.Tree.{Tree, Set, Nothing, Both, Either, Repeat}
use Rattle.pattern_syntax.specs.Literal.{single_byte, single_bytes, start_joined}
use Rattle.pattern_syntax.specs.Parts.{bytes_tree}

-- nothing is left of a sequence of single bytes alone
abbrev pub unless_literal : Option (List ℕ) → Tree → Tree
unless_literal None tree = tree
unless_literal (Some bytes) tree = Nothing

-- the sequence without its literal start; a choice of several has none
abbrev pub behind_start : Tree → Tree
behind_start (Both first second) =
    unless_literal (start_joined (single_bytes first) (single_byte second))
    (Both (behind_start first) second)
behind_start (Set bytes) = Set bytes
behind_start Nothing = Nothing
behind_start (Either left right) = Either left right
behind_start (Repeat least most piece) = Repeat least most piece

-- a tree in place of the first leaf of another, where that is an empty sequence
abbrev pub set_in_front : Tree → Tree → Tree
set_in_front front (Set bytes) = Set bytes
set_in_front front Nothing = front
set_in_front front (Both first second) = Both (set_in_front front first) second
set_in_front front (Either left right) = Either (set_in_front front left) right
set_in_front front (Repeat least most piece) = Repeat least most (set_in_front front piece)

-- what stands behind single bytes, with them
abbrev pub with_start : List ℕ → Tree → Tree
with_start start tree = set_in_front (bytes_tree start) tree

-- a pattern is its start and what stands behind it
pub record StartParts (tree : Tree) (start : List ℕ) (rest : Tree) : Type 0 where
  pub whole : with_start start rest ≡ tree
  pub behind : rest ≡ behind_start tree
