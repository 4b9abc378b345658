use Rattle.std.proofs.Common.{◌≤◌, length}
use Rattle.file_paths.specs.PathRef.{path_of}
use Rattle.spec_match.specs.StatesFor.{AreStatesFor, patterns_of}
use Rattle.spec_match.proofs.FoundLemmas.{IsGoing}
use Rattle.spec_match.proofs.starts.Starts.add_in.Given as goal

abbrev pub invariant-chain : goal.invariant-chain
invariant-chain l = record {
  states : AreStatesFor (patterns_of l.sought.rules.now) l.trials.states;
  within : l.next ≤ length l.sought.rules.now;
  going : IsGoing (path_of l.sought.path) l.sought.rules.now (length l.self.heads.items)
      l.chain.bucket l.chain.at l.next
      l.fn.found.items l.found.items;
}

abbrev pub decreases-chain : goal.decreases-chain
decreases-chain l = l.next
