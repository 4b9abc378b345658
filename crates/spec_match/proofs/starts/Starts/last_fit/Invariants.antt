use Rattle.std.proofs.Common.{◌≡◌, ◌<◌, ◌^◌, length, suc, take}
use Rattle.spec_match.specs.Chains.{fits_at, hashed}
use Rattle.spec_match.specs.StatesFor.{AreStatesFor, patterns_of}
use Rattle.spec_match.proofs.ChainLemmas.{IsSeen}
use Rattle.spec_match.proofs.starts.Starts.last_fit.Given as goal

abbrev pub invariant-bytes : goal.invariant-bytes
invariant-bytes l = record {
  states : AreStatesFor (patterns_of l.rules) l.trials.states;
  hash : l.hash ≡ hashed 0 (take l.k l.query.text.now);
  bound : l.hash < 2 ^ 32;
  seen : IsSeen l.rules (length l.self.heads.items) l.query.text.now
      (fits_at l.query.asked l.query.text.now l.rules)
      (suc l.k) l.found;
}
