-- Settled states: those behind which every text may follow, and those that every byte leaves as
-- they are, as far as single places of the automaton behind the literal start show it.
use Rattle.std.specs.Prelude.{◌≡◌, ℕ, ◌<◌, ◌⊎◌, true, false, List, length, slice_get}
use Rattle.pattern_syntax.specs.Tree.{Tree}
use Rattle.pattern_syntax.specs.Literal.{literal_start_of}
use Rattle.pattern_match.specs.Automaton.{Place, automaton, all_places}
use Rattle.pattern_match.specs.Class.{HasEachByte}
use Rattle.pattern_syntax.specs.Starts.{behind_start}
use Rattle.pattern_match.specs.States.{Progress, bit, is_bare}
use Rattle.pattern_match.specs.Tables.{ends, has, leads}

-- a text may end behind the place, and every byte leads from it to itself: a loop
pub record IsOnward (places : List Place) (p : ℕ) : Type 0 where
  pub last : ends (slice_get places p) ≡ true
  pub again : leads (slice_get places p) p ≡ true
  pub takes : HasEachByte (has (slice_get places p))

-- a text may end behind the place, and it leads to a loop
pub record LeadsOnward (places : List Place) (p : ℕ) : Type 0 where
  pub last : ends (slice_get places p) ≡ true
  pub next : ℕ
  pub follows : leads (slice_get places p) next ≡ true
  pub onward : IsOnward places next

-- some marked place does
pub record MarksLeadOnward (tree : Tree) (marks : List ℕ) : Type 0 where
  pub place : ℕ
  pub marked : bit marks place ≡ true
  pub onward : LeadsOnward (all_places (automaton tree)) place

-- the whole literal start was read, and of the places behind it some marked one does
pub record StatesLeadOnward (tree : Tree) (states : Progress) : Type 0 where
  pub whole : states.seen ≡ length (literal_start_of tree)
  pub behind : MarksLeadOnward (behind_start tree) states.marks

-- the places that follow the place are those that are marked, and every byte leads to it
pub record IsSteadyPlace (places : List Place) (marks : List ℕ) (p : ℕ) : Type 0 where
  pub same : (q : ℕ) → leads (slice_get places p) q ≡ bit marks q
  pub takes : HasEachByte (has (slice_get places p))

-- the empty text isn't all that the pattern holds, and each marked place is such a one
pub record MarksStay (tree : Tree) (marks : List ℕ) : Type 0 where
  pub some : is_bare tree ≡ false
  pub each : (p : ℕ) → bit marks p ≡ true → IsSteadyPlace (all_places (automaton tree)) marks p

-- another byte was met, so that nothing is left; or the whole literal start was read, and the marks
-- behind it stay
abbrev pub StatesStay : Tree → Progress → Type 0
StatesStay tree states =
    (length (literal_start_of tree) < states.seen)
    ⊎ ((states.seen ≡ length (literal_start_of tree)) × MarksStay (behind_start tree) states.marks)
