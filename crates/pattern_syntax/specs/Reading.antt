-- What a text of a pattern reads as.
use Rattle.std.specs.Prelude.{ℕ, ◌+◌, ◌-◌, ◌*◌, max, Bool, true, false, ◌==◌, nat_le, List, [], ◌∷◌}
use Rattle.std.specs.Prelude.{length, drop, fold, Option, Some, None, Result, Ok, Err, is_some}
use Rattle.std.specs.Prelude.{if◌then◌else◌}
use Rattle.pattern_syntax.specs.Tree.{Tree, Set, Nothing, Both, Either, Repeat}
use Rattle.pattern_syntax.specs.Tokens.{Token, Bytes, Open, Close, Bar, Anchor, Times, Cut}
use Rattle.pattern_syntax.specs.Tokens.{PlacedToken, tokens_from}
use Rattle.pattern_syntax.specs.declared.refusal.Refusal.{Refusal}
use Rattle.pattern_syntax.specs.declared.refusal.Refusal.TheVariants as refusal
use Rattle.pattern_syntax.specs.declared.pattern_fault.PatternWhy.{PatternWhy}
use Rattle.pattern_syntax.specs.declared.pattern_fault.PatternWhy.TheVariants.{Syntax}
use Rattle.pattern_syntax.specs.declared.pattern_fault.PatternWhy.TheVariants.{UnsupportedPattern}
use Rattle.pattern_syntax.specs.declared.pattern_fault.PatternWhy.TheVariants.{TooDeep}
use Rattle.pattern_syntax.specs.declared.pattern_fault.PatternWhy.TheVariants.{TooManyPositions}
use Rattle.pattern_syntax.specs.declared.limits.TheConstants.{MOST_GROUPS, MOST_POSITIONS}

-- ---- faults

abbrev pub refused_at : ℕ → Refusal → PatternWhy
refused_at place refusal.Syntax = Syntax place
refused_at place refusal.Unsupported = UnsupportedPattern place

abbrev pub placed_cut : ℕ → Cut → Result (Token × ℕ) PatternWhy
placed_cut place (Ok cut) = Ok cut
placed_cut place (Err refusal) = Err (refused_at place refusal)

-- a piece stands before a repeat
abbrev pub ends_piece : Token → Bool
ends_piece (Bytes bytes) = true
ends_piece Close = true
ends_piece Open = false
ends_piece Bar = false
ends_piece Anchor = false
ends_piece (Times least most) = false

-- how many groups are open behind a token
abbrev pub depth_behind : Token → ℕ → ℕ
depth_behind Open depth = depth + 1
depth_behind Close depth = depth - 1
depth_behind (Bytes bytes) depth = depth
depth_behind Bar depth = depth
depth_behind Anchor depth = depth
depth_behind (Times least most) depth = depth

-- the fault of structure of a token, where so many groups are open and a piece ends right before
-- it, or doesn't
abbrev pub structure_fault : (depth : ℕ) (after_piece : Bool) (place : ℕ) → Token
    → Option PatternWhy
structure_fault depth after_piece place Close = if depth == 0 then Some (Syntax place) else None
structure_fault depth after_piece place Open =
    if nat_le MOST_GROUPS depth then Some (TooDeep place) else None
structure_fault depth after_piece place (Times least most) =
    if after_piece then None else Some (Syntax place)
structure_fault depth after_piece place (Bytes bytes) = None
structure_fault depth after_piece place Bar = None
structure_fault depth after_piece place Anchor = None

abbrev pub first_fault_of : Option PatternWhy → Option PatternWhy → Option PatternWhy
first_fault_of (Some why) later = Some why
first_fault_of None later = later

-- the first fault of tokens; end is the length of the text
unfoldable pub first_fault : (end depth : ℕ) (after_piece : Bool) → List PlacedToken
    → Option PatternWhy
first_fault end depth after_piece [] = if depth == 0 then None else Some (Syntax end)
first_fault end depth after_piece ((place, Err refusal) ∷ tokens) = Some (refused_at place refusal)
first_fault end depth after_piece ((place, Ok token) ∷ tokens) =
    first_fault_of (structure_fault depth after_piece place token)
    (first_fault end (depth_behind token depth) (ends_piece token) tokens)

-- the first fault of what stands from a place on, outside of all groups
abbrev pub fault_from : (from : ℕ) (after_piece : Bool) → List ℕ → Option PatternWhy
fault_from from after_piece text =
    first_fault (length text) 0 after_piece (tokens_from from 0 (drop from text))

-- ---- trees

-- what is read of a choice: its sides before the last bar, the sequence since, and the piece that a
-- repeat may follow
pub record Level : Type 0 where
  pub sides : Option Tree
  pub sequence : Tree
  pub piece : Option Tree

abbrev pub new_level : Level
new_level = record { sides = None; sequence = Nothing; piece = None }

abbrev pub with_last : Tree → Option Tree → Tree
with_last sequence None = sequence
with_last sequence (Some piece) = Both sequence piece

abbrev pub with_side : Option Tree → Tree → Tree
with_side None sequence = sequence
with_side (Some sides) sequence = Either sides sequence

-- the sequence with its last piece, the choice with its last side
abbrev pub sequence_of : Level → Tree
sequence_of level = with_last level.sequence level.piece

abbrev pub sides_of : Level → Tree
sides_of level = with_side level.sides (sequence_of level)

-- no repeat may follow
abbrev pub settled : Level → Level
settled level = record { sides = level.sides; sequence = sequence_of level; piece = None }

abbrev pub with_piece : Level → Tree → Level
with_piece level piece =
    record { sides = level.sides; sequence = sequence_of level; piece = Some piece }

abbrev pub with_bar : Level → Level
with_bar level = record { sides = Some (sides_of level); sequence = Nothing; piece = None }

abbrev pub repeated_piece : ℕ → Option ℕ → Option Tree → Tree → Tree
repeated_piece least most None sequence = sequence
repeated_piece least most (Some piece) sequence = Both sequence (Repeat least most piece)

abbrev pub with_repeat : ℕ → Option ℕ → Level → Level
with_repeat least most level =
    record {
      sides = level.sides;
      sequence = repeated_piece least most level.piece level.sequence;
      piece = None;
    }

-- what is read of a pattern: the innermost choice, and the choices around it, from the innermost on
pub record Reading : Type 0 where
  pub level : Level
  pub outer : List Level

abbrev pub new_reading : Reading
new_reading = record { level = new_level; outer = [] }

abbrev pub group_closed : Level → List Level → Reading
group_closed level [] = record { level = level; outer = [] }
group_closed level (around ∷ outer) =
    record { level = with_piece around (sides_of level); outer = outer }

abbrev pub after_token : Reading → Token → Reading
after_token reading (Bytes bytes) =
    record { level = with_piece reading.level (Set bytes); outer = reading.outer }
after_token reading Open =
    record { level = new_level; outer = settled reading.level ∷ reading.outer }
after_token reading Close = group_closed reading.level reading.outer
after_token reading Bar = record { level = with_bar reading.level; outer = reading.outer }
after_token reading Anchor = record { level = settled reading.level; outer = reading.outer }
after_token reading (Times least most) =
    record { level = with_repeat least most reading.level; outer = reading.outer }

abbrev pub after_placed : Reading → PlacedToken → Reading
after_placed reading (place, Ok token) = after_token reading token
after_placed reading (place, Err refusal) = reading

-- the tree of tokens that have no fault
abbrev pub tree_after : Reading → List PlacedToken → Tree
tree_after reading tokens = sides_of (fold after_placed reading tokens).level

-- ---- positions

abbrev pub factor : ℕ → Option ℕ → ℕ
factor least (Some most) = most
factor least None = max least 1

-- how many bytes and sets there are, those in repeats counted as often as they are written out
abbrev pub positions : Tree → ℕ
positions (Set bytes) = 1
positions Nothing = 0
positions (Both first second) = positions first + positions second
positions (Either left right) = positions left + positions right
positions (Repeat least most piece) = positions piece * factor least most

-- the fault, or the tree where it has no more positions than it may
abbrev pub fault_or_tree : Option PatternWhy → Tree → Result Tree PatternWhy
fault_or_tree (Some why) tree = Err why
fault_or_tree None tree = if nat_le (positions tree) MOST_POSITIONS then Ok tree else Err
    TooManyPositions

-- what tokens read as
unfoldable pub reads_as : (end : ℕ) → Reading → List PlacedToken → Result Tree PatternWhy
reads_as end reading tokens =
    fault_or_tree (first_fault end (length reading.outer) (is_some reading.level.piece) tokens)
    (tree_after reading tokens)

-- the pattern that a text spells, or the fault at the least place
unfoldable pub pattern_of : List ℕ → Result Tree PatternWhy
pattern_of text = reads_as (length text) new_reading (tokens_from 0 0 text)
