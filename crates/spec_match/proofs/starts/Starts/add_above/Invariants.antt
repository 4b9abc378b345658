use Rattle.std.proofs.Common.{◌≡◌, ◌<◌, ◌^◌, suc, take}
use Rattle.file_paths.specs.PathRef.{path_of}
use Rattle.spec_match.specs.Chains.{hashed}
use Rattle.spec_match.specs.StatesFor.{AreStatesFor, patterns_of}
use Rattle.spec_match.proofs.FoundLemmas.{AreAddedTo}
use Rattle.spec_match.proofs.starts.Starts.add_above.Given as goal

abbrev pub invariant-bytes : goal.invariant-bytes
invariant-bytes l = record {
  states : AreStatesFor (patterns_of l.sought.rules.now) l.trials.states;
  hash : l.hash ≡ hashed 0 (take l.k l.text);
  bound : l.hash < 2 ^ 32;
  added : AreAddedTo (path_of l.sought.path) l.sought.rules.now l.text (suc l.k) l.fn.found.items
      l.found.items;
}
