-- Lists, some bytes on.
use Rattle.std.specs.Prelude.{◌≡◌, ℕ, ◌<◌, ◌⊎◌, Bool, true, None, List, [], ◌∷◌, ◌++◌, length}
use Rattle.std.specs.List.{All}
use Rattle.pattern_match.specs.Onwards.{TakesAll}
use Rattle.pattern_match.specs.Settled.{StatesStay}
use Rattle.pattern_match.specs.States.{AreStatesOf, Progress, StandsFor}
use Rattle.pattern_syntax.specs.Language.{Opens}
use Rattle.pattern_syntax.specs.Tree.{Tree}
use Rattle.spec_match.specs.Alive.{Alive, IsOwn, alive, alive_at, alive_list, pattern_at}
use Rattle.spec_match.specs.Alive.{wanted_byte}
use Rattle.spec_reader.specs.SpecValue.{SpecValue}

abbrev pub AreOwnLists : List Tree → List (List Alive) → Type 0
AreOwnLists patterns lists = (i : ℕ) → i < length lists → All (IsOwn patterns) (alive_list lists i)

-- the specification was written with states before the first byte of a text
pub record IsBegun (pattern : Tree) (index : ℕ) (old new : List Alive) : Type 0 where
  pub states : Progress
  pub more : new ≡ old ++ alive index states (wanted_byte pattern states) ∷ []
  pub made : AreStatesOf pattern states
  pub stands : StandsFor pattern states []

-- behind the bytes the specification is dead, and nothing was written
pub record IsDropped (pattern : Tree) (tail : List ℕ) (one : Alive) (old new : List Alive)
    : Type 0 where
  pub same : new ≡ old
  pub dead : (text : List ℕ) → StandsFor pattern one.states text
      → Opens pattern (text ++ tail) → ⊥

-- the specification was written with states that stand for these bytes more
pub record IsStepWritten (pattern : Tree) (tail : List ℕ) (one : Alive) (old new : List Alive)
    : Type 0 where
  pub states : Progress
  pub more : new ≡ old ++ alive one.index states (wanted_byte pattern states) ∷ []
  pub made : AreStatesOf pattern states
  pub stands : (text : List ℕ) → StandsFor pattern one.states text
      → StandsFor pattern states (text ++ tail)

abbrev pub GoesOn : Tree → List ℕ → Alive → List Alive → List Alive → Type 0
GoesOn pattern tail one old new =
    IsDropped pattern tail one old new ⊎ IsStepWritten pattern tail one old new

-- a list that may be cut ends at the specification: behind the bytes it fits whatever text follows
pub record IsEnd (cuts : Bool) (spec : SpecValue) (tail : List ℕ) (one : Alive) : Type 0 where
  pub may : cuts ≡ true
  pub any : spec.kind ≡ None
  pub holds : (text : List ℕ) → StandsFor spec.pattern one.states text
      → TakesAll spec.pattern (text ++ tail)

-- whichever byte follows, the states stand for the text with it as well
abbrev pub IsStaying : Tree → Alive → Type 0
IsStaying pattern one = (byte : ℕ) → 0 < byte → byte < 256 → (text : List ℕ)
    → StandsFor pattern one.states text → StandsFor pattern one.states (text ++ byte ∷ [])

-- of each member of a list the states stay, as far as single places of its automaton show it
abbrev pub AllStatesStay : List Tree → List Alive → Type 0
AllStatesStay patterns list =
    (k : ℕ) → k < length list
    → StatesStay (pattern_at patterns (alive_at list k).index) (alive_at list k).states
