-- The states in which the patterns of a list are matched.
use Rattle.std.specs.Prelude.{◌≡◌, ℕ, ◌<◌, List, [], length, map}
use Rattle.std.specs.List.{slice_index_or}
use Rattle.pattern_match.specs.States.{HasRoomFor, Progress, Working}
use Rattle.pattern_syntax.specs.Tree.{Tree, Nothing}
use Rattle.spec_reader.specs.SpecValue.{SpecValue}
use Rattle.spec_match.specs.declared.compiled_spec.CompiledSpec.{CompiledSpec}

-- what stands for no states
abbrev pub no_progress : Progress
no_progress = record { seen = 0; marks = [] }

-- the states have room for the marks of each pattern
pub record AreStatesFor (patterns : List Tree) (states : Working) : Type 0 where
  pub own : (i : ℕ) → i < length patterns
      → HasRoomFor (slice_index_or patterns i Nothing) states.room

abbrev pub pattern_in : SpecValue → Tree
pattern_in spec = spec.pattern

abbrev pub spec_in : CompiledSpec → SpecValue
spec_in rule = rule.spec

-- the patterns of the specifications
abbrev pub patterns_of : List CompiledSpec → List Tree
patterns_of rules = map (λ rule. rule.spec.pattern) rules

-- there is room for the marks of each of so many specifications' patterns
abbrev pub HasRoomForEach : List CompiledSpec → ℕ → ℕ → Type 0
HasRoomForEach rules n room =
    (i : ℕ) → i < n → (rule : CompiledSpec) → rule ≡ slice_index_or rules i rule
    → HasRoomFor rule.spec.pattern room
