use Rattle.spec_match.specs.ListsSeen.{list_seen}
use Rattle.spec_match.specs.StatesFor.{AreStatesFor, patterns_of}
use Rattle.spec_match.proofs.SteppingLemmas.{AllStay, SettledTo}
use Rattle.spec_match.proofs.stepping.list_stays.Given as goal

abbrev pub invariant-alive : goal.invariant-alive
invariant-alive l = record {
  states : AreStatesFor (patterns_of l.rules) l.states;
  stay : AllStay (patterns_of l.rules) (list_seen l.list) l.k;
  settled : SettledTo (patterns_of l.rules) (list_seen l.list) l.k;
}
