use Rattle.std.proofs.Common.{◌≡◌, ℕ, List, ◌++◌, take}
use Rattle.pattern_match.specs.States.{AreStatesOf, StandsFor}
use Rattle.spec_match.proofs.compiled_spec.CompiledSpec.read_on.Given as goal

abbrev pub invariant-text : goal.invariant-text
invariant-text l = record {
  room : l.states.room ≡ l.fn.states.room;
  made : AreStatesOf l.self.spec.pattern l.states.known;
  stands : (front : List ℕ) → StandsFor l.self.spec.pattern l.fn.states.known front
      → StandsFor l.self.spec.pattern l.states.known (front ++ take l.byte-index l.text);
}
