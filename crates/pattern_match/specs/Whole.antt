-- The segment of a whole pattern.
use Rattle.std.specs.Prelude.{◌≡◌, ℕ, ◌≤◌, true, List, length}
use Rattle.pattern_syntax.specs.Tree.{Tree}
use Rattle.pattern_match.specs.Automaton.{automaton}
use Rattle.pattern_match.specs.Layouts.{IsSegmentOf}
use Rattle.pattern_match.specs.declared.class.Class.{Class}
use Rattle.pattern_match.specs.declared.segment.Segment.{Segment}

-- the rows are those of the tree's places, which are few, and no others
pub record IsWholeSegment (rows : List ℕ) (classes : List Class) (whole : Segment) (tree : Tree)
    : Type 0 where
  pub begins : whole.start ≡ 0
  pub live : whole.is_live ≡ true
  pub few : length rows ≤ 63
  pub even : length classes ≡ length rows
  pub count : length rows ≡ length (automaton tree).places
  pub stands : IsSegmentOf rows classes whole (automaton tree)
