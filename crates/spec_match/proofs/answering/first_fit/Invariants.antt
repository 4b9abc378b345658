use Rattle.std.proofs.Common.{List, ℕ}
use Rattle.spec_match.specs.ListsSeen.{list_seen}
use Rattle.spec_match.specs.StatesFor.{AreStatesFor, patterns_of}
use Rattle.spec_match.proofs.AnswerLemmas.{IsPassed}
use Rattle.spec_match.proofs.answering.first_fit.Given as goal

abbrev pub invariant-alive : goal.invariant-alive
invariant-alive l = record {
  states : AreStatesFor (patterns_of l.rules) l.states;
  passed : (text : List ℕ) → IsPassed l.asked text text l.rules (list_seen l.list)
      l.k;
}
