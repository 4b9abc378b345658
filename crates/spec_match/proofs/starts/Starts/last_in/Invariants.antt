use Rattle.std.proofs.Common.{◌≤◌, length}
use Rattle.spec_match.specs.Chains.{fits_from, is_in_bucket}
use Rattle.spec_match.specs.StatesFor.{AreStatesFor, patterns_of}
use Rattle.spec_match.proofs.ChainLemmas.{IsNext}
use Rattle.spec_match.proofs.starts.Starts.last_in.Given as goal

abbrev pub invariant-chain : goal.invariant-chain
invariant-chain l = record {
  states : AreStatesFor (patterns_of l.rules) l.trials.states;
  within : l.next ≤ length l.rules;
  next : IsNext (length l.rules) (is_in_bucket l.rules (length l.self.heads.items) l.chain.bucket)
      (fits_from l.chain.at l.query.asked l.query.text.now l.rules) l.next;
}

abbrev pub decreases-chain : goal.decreases-chain
decreases-chain l = l.next
