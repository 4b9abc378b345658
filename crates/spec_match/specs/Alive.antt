-- Which specifications are alive behind a text: some text of their language begins with it.
use Rattle.std.specs.Prelude.{◌≡◌, ℕ, ◌+◌, ◌<◌, ◌≤◌, ◌==◌, not, Bool, false, List, [], ◌∷◌, ◌++◌}
use Rattle.std.specs.Prelude.{Option, None, Some, length, slice_get}
use Rattle.std.specs.List.{slice_index_or}
use Rattle.pattern_syntax.specs.Language.{Opens}
use Rattle.pattern_syntax.specs.Literal.{literal_start_of}
use Rattle.pattern_syntax.specs.Tree.{Tree, Nothing}
use Rattle.pattern_match.specs.States.{AreStatesOf, Progress, StandsFor}
use Rattle.spec_match.specs.StatesFor.{no_progress}

-- a specification by its index, states of its pattern, and the byte that its literal start wants
-- next, where one is lacking
pub record Alive : Type 0 where
  pub index : ℕ
  pub states : Progress
  pub wants : Option ℕ

abbrev pub alive : ℕ → Progress → Option ℕ → Alive
alive index states wants = record { index = index; states = states; wants = wants }

abbrev pub no_alive : Alive
no_alive = alive 0 no_progress None

abbrev pub alive_at : List Alive → ℕ → Alive
alive_at list k = slice_index_or list k no_alive

abbrev pub alive_list : List (List Alive) → ℕ → List Alive
alive_list lists i = slice_index_or lists i []

abbrev pub pattern_at : List Tree → ℕ → Tree
pattern_at patterns i = slice_index_or patterns i Nothing

-- the next byte of a pattern's literal start, where one is lacking
abbrev pub wanted_byte : Tree → Progress → Option ℕ
wanted_byte pattern states = slice_get (literal_start_of pattern) states.seen

-- the literal start goes on with another byte, if it goes on
abbrev pub wants_other : Option ℕ → ℕ → Bool
wants_other None byte = false
wants_other (Some next) byte = not (next == byte)

-- the literal start goes on with another byte
abbrev pub WantsOther : Alive → ℕ → Type 0
WantsOther one byte = (next : ℕ) × (one.wants ≡ Some next) × (next ≡ byte → ⊥)

-- the states and the byte that is wanted are those of the specification's pattern
pub record IsOwn (patterns : List Tree) (one : Alive) : Type 0 where
  pub within : one.index < length patterns
  pub made : AreStatesOf (pattern_at patterns one.index) one.states
  pub wants : one.wants ≡ wanted_byte (pattern_at patterns one.index) one.states

-- none of the specifications from one index on and below another is alive
abbrev pub NoneAlive : List Tree → List ℕ → ℕ → ℕ → Type 0
NoneAlive patterns text from below =
    (i : ℕ) → from ≤ i → i < below → Opens (pattern_at patterns i) text → ⊥

-- the list has, from the last specification below a bound back, each from a floor on that is alive
-- behind the text, with states that stand for the text
abbrev pub AreAliveFrom : List Tree → List ℕ → ℕ → ℕ → List Alive → Type 0
AreAliveFrom patterns text floor bound [] = NoneAlive patterns text floor bound
AreAliveFrom patterns text floor bound (one ∷ list) =
    (one.index < bound) × NoneAlive patterns text (one.index + 1) bound
    × StandsFor (pattern_at patterns one.index) one.states text
    × AreAliveFrom patterns text floor one.index list

-- each that is alive
abbrev pub AreAlive : List Tree → List ℕ → ℕ → List Alive → Type 0
AreAlive patterns text bound list = AreAliveFrom patterns text 0 bound list

-- some bytes lead from one list to another, behind whatever text a list is for
abbrev pub LeadsBy : (List ℕ → List Alive → Type 0) → List ℕ → List Alive → List Alive → Type 0
LeadsBy IsFor tail from to = (text : List ℕ) → IsFor text from → IsFor (text ++ tail) to

abbrev pub Leads : List Tree → List ℕ → List Alive → List Alive → Type 0
Leads patterns = LeadsBy (λ text list. AreAlive patterns text (length patterns) list)
