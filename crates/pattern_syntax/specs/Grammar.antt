-- The grammar of patterns over their tokens: a choice is sequences parted by bars; a sequence is a
-- run of pieces, in which anchors leave nothing; a piece is an item, which a repeat may follow; an
-- item is a byte, a set or a group.
use Rattle.std.specs.Prelude.{ℕ, List, [], ◌∷◌, ◌++◌, Option, Result}
use Rattle.pattern_syntax.specs.Tree.{Tree, Set, Nothing, Both, Either, Repeat}
use Rattle.pattern_syntax.specs.Tokens.{Token, Bytes, Open, Close, Bar, Anchor, Times, PlacedToken}
use Rattle.pattern_syntax.specs.declared.refusal.Refusal.{Refusal}

pub data Part : Type 0 where
  Item : Part
  Piece : Part
  Sequence : Part
  Choice : Part

-- the tokens are such a part of a pattern, and this is its tree
pub data Spells : Part → List Token → Tree → Type 0 where
  set : (bytes : List ℕ) → Spells Item (Bytes bytes ∷ []) (Set bytes)
  group : (tokens : List Token) (tree : Tree) → Spells Choice tokens tree
      → Spells Item (Open ∷ (tokens ++ Close ∷ [])) tree
  once : (tokens : List Token) (tree : Tree) → Spells Item tokens tree → Spells Piece tokens tree
  times : (tokens : List Token) (tree : Tree) (least : ℕ) (most : Option ℕ)
      → Spells Item tokens tree
      → Spells Piece (tokens ++ Times least most ∷ []) (Repeat least most tree)
  empty : Spells Sequence [] Nothing
  more : (front back : List Token) (first last : Tree) → Spells Sequence front first
      → Spells Piece back last → Spells Sequence (front ++ back) (Both first last)
  anchored : (tokens : List Token) (tree : Tree) → Spells Sequence tokens tree
      → Spells Sequence (tokens ++ Anchor ∷ []) tree
  only : (tokens : List Token) (tree : Tree) → Spells Sequence tokens tree
      → Spells Choice tokens tree
  or : (front back : List Token) (left right : Tree) → Spells Choice front left
      → Spells Sequence back right → Spells Choice (front ++ Bar ∷ back) (Either left right)

abbrev pub cut_of : PlacedToken → Result Token Refusal
cut_of placed = placed.1
