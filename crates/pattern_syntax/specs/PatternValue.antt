-- A pattern, as contracts see it.
use Rattle.std.specs.Prelude.{◌≡◌, ◌+◌, ◌<◌, ◌≤◌, ◌^◌, ℕ, Bool, true, List, length, take, drop}
use Rattle.std.specs.Prelude.{◌-◌, if◌then◌else◌, Result, Ok, Err, is_some}
use Rattle.pattern_syntax.specs.Tree.{Tree, Nothing}
use Rattle.pattern_syntax.specs.Shape.{is_proper}
use Rattle.pattern_syntax.specs.Literal.{literal_start_of, single_bytes}
use Rattle.pattern_syntax.specs.Reading.{pattern_of}
use Rattle.pattern_syntax.specs.declared.pattern_fault.PatternWhy.{PatternWhy}

pub record PatternValue : Type 0 where
  pub text : List ℕ
  pub tree : Tree

abbrev pub tree_or_nothing : Result Tree PatternWhy → Tree
tree_or_nothing (Ok tree) = tree
tree_or_nothing (Err why) = Nothing

-- the tree that a pattern's text reads as
unfoldable pub tree_read : List ℕ → Tree
tree_read text = tree_or_nothing (pattern_of text)

abbrev pub as_read : List ℕ → PatternValue
as_read text = record { text = text; tree = tree_read text }

-- the text is a pattern's, the start is all that its tree begins with, and alone says whether
-- nothing else is in the tree
pub record IsReadPattern (text start : List ℕ) (alone : Bool) : Type 0 where
  pub short : length text < 2 ^ 32
  pub reads : pattern_of text ≡ Ok (tree_read text)
  pub proper : is_proper (tree_read text) ≡ true
  pub literal : literal_start_of (tree_read text) ≡ start
  pub alone_is : alone ≡ is_some (single_bytes (tree_read text))

-- where a text ends and a start begins, where the start has so many of the bytes and stands behind
-- the text, or else is its front
abbrev pub text_end : List ℕ → (count : ℕ) → (behind : Bool) → ℕ
text_end bytes count behind = if behind then length bytes - count else length bytes

abbrev pub start_place : List ℕ → (count : ℕ) → (behind : Bool) → ℕ
start_place bytes count behind = if behind then length bytes - count else 0

-- the bytes begin with the text, and the start stands in them at a place
pub record HoldsBoth (bytes text start : List ℕ) (at : ℕ) : Type 0 where
  pub text_is : take (length text) bytes ≡ text
  pub start_is : take (length start) (drop at bytes) ≡ start
  pub text_fits : length text ≤ length bytes
  pub start_fits : at + length start ≤ length bytes
  pub early : at ≤ length text

-- the bytes up to an end are the text, and so many from a place on are the start
pub record IsKept (bytes : List ℕ) (end at count : ℕ) (alone : Bool) : Type 0 where
  pub text_fits : end ≤ length bytes
  pub start_fits : at + count ≤ length bytes
  pub reads_so : IsReadPattern (take end bytes) (take count (drop at bytes)) alone
