-- What follows the marked places of an automaton, and whether a text may end behind one.
use Rattle.std.specs.Prelude.{ℕ, ◌*◌, ◌≤◌, Bool, false, ◌&&◌, List, length, Option}
use Rattle.std.specs.Prelude.{Some, None, slice_get}
use Rattle.pattern_match.specs.Automaton.{Place, automaton, all_places}
use Rattle.pattern_match.specs.Operations.{AreOperationsOf, operations_tree}
use Rattle.pattern_match.specs.Passes.{may_enter}
use Rattle.pattern_match.specs.States.{bit}
use Rattle.pattern_match.specs.Tables.{any_under, ends, leads}
use Rattle.pattern_match.specs.declared.entry.EnteredPlaces.{EnteredPlaces}
use Rattle.pattern_match.specs.declared.operation.Operation.{Operation}

abbrev pub place_admitted : EnteredPlaces → Option Place → Bool
place_admitted entry None = false
place_admitted entry (Some place) = may_enter entry place.bytes

-- some marked place leads to the one of this number
abbrev pub follows_marked : List Place → List ℕ → ℕ → Bool
follows_marked places marks q =
    any_under (λ p. bit marks p && leads (slice_get places p) q) (length places)

-- and that may be entered
abbrev pub enters : EnteredPlaces → List Place → List ℕ → ℕ → Bool
enters entry places marks q =
    follows_marked places marks q && place_admitted entry (slice_get places q)

-- a text may end behind some marked place
abbrev pub ends_among : List Place → List ℕ → Bool
ends_among places marks =
    any_under (λ p. bit marks p && ends (slice_get places p)) (length places)

-- the places of the operations' automaton, that before the first byte behind all others
abbrev pub operation_places : List Operation → List Place
operation_places operations = all_places (automaton (operations_tree operations))

-- the operations are those of a tree, and the words have a bit for each place
pub record HaveBits (operations : List Operation) (words : ℕ) : Type 0 where
  pub are : AreOperationsOf operations (operations_tree operations)
  pub room : length (operation_places operations) ≤ 64 * words
