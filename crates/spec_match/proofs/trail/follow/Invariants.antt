use Rattle.std.proofs.Common.{◌≡◌, ◌<◌, Bool, List, length}
use Rattle.pattern_syntax.specs.Tree.{Tree}
use Rattle.spec_match.specs.Alive.{Alive}
use Rattle.spec_match.specs.Listed.{IsListed}
use Rattle.spec_match.specs.Remembering.{IsStep, Remembers}
use Rattle.spec_match.specs.Trail.{IsTrailRead}
use Rattle.spec_match.proofs.trail.follow.Given as goal
use Rattle.spec_reader.specs.SpecValue.{SpecValue}

-- the text was read up to here
abbrev pub invariant-text : goal.invariant-text
invariant-text l = record {
  within : l.list < l.count;
  read : (cuts : Bool) (patterns : List Tree) (specs : List SpecValue) (all : List (List Alive))
      → length all ≡ l.count → Remembers (IsStep (IsListed cuts patterns specs) all) l.next
      → IsTrailRead (IsListed cuts patterns specs) all l.text l.fn.lists.items l.fn.from.at
      l.fn.from.list → IsTrailRead (IsListed cuts patterns specs) all l.text l.lists.items l.i
      l.list;
}
