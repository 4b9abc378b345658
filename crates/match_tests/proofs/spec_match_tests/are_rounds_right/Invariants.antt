use Rattle.spec_match.specs.Scratches.{IsScratchOf}
use Rattle.match_tests.proofs.spec_match_tests.are_rounds_right.Given as goal

abbrev pub invariant-rounds : goal.invariant-rounds
invariant-rounds l = IsScratchOf l.rules l.scratch
