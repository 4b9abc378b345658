-- What look-ups work in.
use Rattle.std.specs.Prelude.{◌≡◌, ℕ, Bool, false, List, [], map}
use Rattle.pattern_match.specs.States.{Working}
use Rattle.pattern_syntax.specs.Tree.{Tree}
use Rattle.spec_reader.specs.SpecValue.{SpecValue}
use Rattle.spec_match.specs.Alive.{Alive}
use Rattle.spec_match.specs.Fronts.{AreFrontsIf}
use Rattle.spec_match.specs.Listed.{IsListed}
use Rattle.spec_match.specs.Remembering.{Kept, IsTableOf}
use Rattle.spec_match.specs.Trail.{IsTrail, Trace}
use Rattle.spec_match.specs.StatesFor.{AreStatesFor, pattern_in}

-- what a table remembers, what is being written to it, and the text that it read last
pub record Remembered : Type 0 where
  pub table : Kept
  pub draft : List Alive
  pub trail : Trace

pub record IsTableReady (patterns : List Tree) (specs : List SpecValue) (all : Remembered)
    : Type 0 where
  pub table : IsTableOf patterns specs all.table
  pub draft : all.draft ≡ []
  pub trail : IsTrail (IsListed all.table.cuts patterns specs) all.table.lists all.trail

-- states for all patterns, a table, one whose lists are whole, and the fronts of literal starts, if
-- they were made
pub record ScratchParts : Type 0 where
  pub states : Working
  pub table : Remembered
  pub whole : Remembered
  pub are_made : Bool
  pub fronts : List ℕ

pub record IsRoomReady (patterns : List Tree) (specs : List SpecValue) (room : ScratchParts)
    : Type 0 where
  pub states : AreStatesFor patterns room.states
  pub table : IsTableReady patterns specs room.table
  pub whole : IsTableReady patterns specs room.whole
  pub is_whole : room.whole.table.cuts ≡ false
  pub fronts : AreFrontsIf patterns room.are_made room.fronts

-- the scratch was made for this list
unfoldable pub IsScratchOf : List SpecValue → ScratchParts → Type 0
IsScratchOf specs room = IsRoomReady (map pattern_in specs) specs room
