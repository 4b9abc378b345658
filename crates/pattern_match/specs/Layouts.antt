-- The segments of a pattern's parts while its nodes are read.
use Rattle.std.specs.Prelude.{◌≡◌, ℕ, zero, suc, ◌+◌, ◌-◌, ◌<◌, ◌≤◌, ◌*◌, ◌^◌, ◌%◌, ◌==◌, ◌||◌}
use Rattle.std.specs.Prelude.{◌&&◌, true, List, Option, Some, None, if◌then◌else◌, [], ◌∷◌, length}
use Rattle.std.specs.Prelude.{map, reverse}
use Rattle.std.specs.List.{slice_index_or}
use Rattle.pattern_syntax.specs.Tree.{Tree}
use Rattle.pattern_syntax.specs.Nodes.{after_node}
use Rattle.pattern_syntax.specs.declared.node.Node.{Node}
use Rattle.pattern_match.specs.Automaton.{Automaton, automaton, copy_before}
use Rattle.pattern_match.specs.Class.{class_bytes}
use Rattle.pattern_match.specs.Segments.{in_word, IsSegment}
use Rattle.pattern_match.specs.declared.class.Class.{Class}
use Rattle.pattern_match.specs.declared.segment.Segment.{Segment}

-- the segment's places stand in the rows, and are those of the automaton
abbrev pub IsSegmentOf : List ℕ → List Class → Segment → Automaton → Type 0
IsSegmentOf rows classes s a =
    IsSegment rows (map class_bytes classes) s.start s.first s.last s.holds_empty s.is_live a

-- the segments, the last one first, stand for the automata one before the other, up to an end
abbrev pub AreSegments : List ℕ → List Class → List Segment → List Automaton → ℕ → Type 0
AreSegments rows classes [] [] end = Unit {0}
AreSegments rows classes [] (a ∷ others) end = ⊥
AreSegments rows classes (s ∷ segments) [] end = ⊥
AreSegments rows classes (s ∷ segments) (a ∷ others) end =
    IsSegmentOf rows classes s a × (end ≡ s.start + length a.places)
    × AreSegments rows classes segments others s.start

-- as many classes as rows, of few places; the segments, their last one at the end, stand for the
-- automata, the last one first
pub record IsLaid (rows : List ℕ) (classes : List Class) (segments : List Segment)
    (automata : List Automaton) : Type 0 where
  pub few : length rows ≤ 63
  pub even : length classes ≡ length rows
  pub segments_are : AreSegments rows classes (reverse segments) automata (length rows)

-- what is laid for trees becomes what is laid for the trees after a node
abbrev pub Lays : Node → List ℕ → List Class → List Segment → List ℕ → List Class
    → List Segment → Type 0
Lays node rows classes segments new others made =
    (trees : List Tree) → IsLaid rows classes segments (map automaton trees)
    → IsLaid new others made (map automaton (after_node node trees))

-- the bits of the rows below a place stay
abbrev pub SameBelow : List ℕ → List ℕ → ℕ → Type 0
SameBelow rows new n =
    (p k : ℕ) → p < n
    → in_word (slice_index_or new p 0) k ≡ in_word (slice_index_or rows p 0) k

-- the rows of a word's bits have another word's bits too
abbrev pub AreLinked : List ℕ → List ℕ → ℕ → ℕ → Type 0
AreLinked rows new last first =
    (p k : ℕ) → in_word (slice_index_or new p 0) k
    ≡ (in_word (slice_index_or rows p 0) k || (in_word last p && in_word first k))

-- the segment so many places further up
abbrev pub further : Segment → ℕ → Segment
further s by = record {
  start = s.start + by;
  first = s.first * 2 ^ by % 2 ^ 64;
  last = s.last * 2 ^ by % 2 ^ 64;
  holds_empty = s.holds_empty;
  is_live = s.is_live;
}

-- so many copies of a piece, one before the other, before the rest
abbrev pub before_rest : ℕ → ℕ → Automaton → Automaton → Automaton
before_rest least zero piece rest = rest
before_rest least (suc left) piece rest =
    before_rest least left piece
    (copy_before ((least - left == 0) || piece.holds_empty) piece rest)

-- each of so many copies of a piece stands behind the one before
abbrev pub StandCopies : List ℕ → List Class → Segment → ℕ → Automaton → Type 0
StandCopies rows classes piece copies a =
    (c : ℕ) → c < copies → IsSegmentOf rows classes (further piece (c * length a.places)) a

-- there is room for so many copies of a piece of so many places
pub record CanCopy (rows : List ℕ) (piece : Segment) (places copies : ℕ) : Type 0 where
  pub some : 0 < places
  pub few : length rows ≤ 63
  pub room : piece.start + copies * places ≤ length rows
  pub within : (p : ℕ) → in_word piece.last p ≡ true
      → (piece.start ≤ p) × (p < piece.start + places)

-- so many places at the end: each row is the one so many rows before it, moved up, and the bytes
-- are the same
pub record AreGrown (by : ℕ) (rows new : List ℕ) (classes others : List Class) (places : ℕ)
    : Type 0 where
  pub count : length new ≡ length rows + places
  pub counted : length others ≡ length classes + places
  pub kept : (p : ℕ) → p < length rows → slice_index_or new p 0 ≡ slice_index_or rows p 0
  pub took : (p : ℕ) → p < length classes
      → slice_index_or (map class_bytes others) p []
      ≡ slice_index_or (map class_bytes classes) p []
  pub moved : (p : ℕ) → length rows ≤ p → p < length new
      → slice_index_or new p 0 ≡ slice_index_or new (p - by) 0 * 2 ^ by % 2 ^ 64
  pub takes : (p : ℕ) → length classes ≤ p → p < length others
      → slice_index_or (map class_bytes others) p []
      ≡ slice_index_or (map class_bytes others) (p - by) []

-- how many copies of a piece a repeat is written as: without an upper number the last one is
-- entered again
abbrev pub copies_of : ℕ → Option ℕ → ℕ
copies_of least None = if least == 0 then 1 else least
copies_of least (Some most) = most

-- a piece of so many places stands last
pub record IsLastPiece (rows : List ℕ) (classes : List Class) (piece : Segment) (places : ℕ)
    : Type 0 where
  pub some : 0 < places
  pub count : length rows ≡ piece.start + places
  pub even : length classes ≡ length rows
  pub within : (p : ℕ) → in_word piece.last p ≡ true
      → (piece.start ≤ p) × (p < piece.start + places)

-- in place of a piece that stood last there are so many places, and what stands before is as it was
pub record AreRepeated (rows new : List ℕ) (classes others : List Class) (piece whole : Segment)
    (places : ℕ) : Type 0 where
  pub count : length new ≡ piece.start + places
  pub even : length others ≡ length new
  pub begins : whole.start ≡ piece.start
  pub below : SameBelow rows new piece.start
  pub took : (p : ℕ) → p < piece.start
      → slice_index_or (map class_bytes others) p []
      ≡ slice_index_or (map class_bytes classes) p []
