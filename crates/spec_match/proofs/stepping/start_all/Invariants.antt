use Rattle.std.proofs.Common.{◌≡◌, ◌≤◌, length}
use Rattle.spec_match.specs.StatesFor.{AreStatesFor, patterns_of}
use Rattle.spec_match.proofs.AliveLemmas.{IsStarted}
use Rattle.spec_match.proofs.stepping.start_all.Given as goal

abbrev pub invariant-rules : goal.invariant-rules
invariant-rules l = record {
  states : AreStatesFor (patterns_of l.rules) l.states;
  lists : l.lists.lists ≡ l.fn.lists.lists;
  within : l.left ≤ length l.rules;
  started : IsStarted (patterns_of l.rules) l.lists.draft l.left;
}

abbrev pub decreases-rules : goal.decreases-rules
decreases-rules l = l.left
