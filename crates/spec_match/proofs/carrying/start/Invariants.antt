use Rattle.std.proofs.Common.{◌≤◌, length}
use Rattle.spec_match.specs.StatesFor.{patterns_of}
use Rattle.spec_match.proofs.AliveLemmas.{IsStarted}
use Rattle.spec_match.proofs.carrying.start.Given as goal

abbrev pub invariant-rules : goal.invariant-rules
invariant-rules l = record {
  within : l.left ≤ length l.rules;
  started : IsStarted (patterns_of l.rules) l.to l.left;
}

abbrev pub decreases-rules : goal.decreases-rules
decreases-rules l = l.left
