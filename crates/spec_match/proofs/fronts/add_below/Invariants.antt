use Rattle.file_paths.specs.PathRef.{path_of}
use Rattle.spec_match.specs.StatesFor.{AreStatesFor, patterns_of}
use Rattle.spec_match.proofs.FrontLemmas.{AreAddedFrom}
use Rattle.spec_match.proofs.fronts.add_below.Given as goal

abbrev pub invariant-keys : goal.invariant-keys
invariant-keys l = record {
  states : AreStatesFor (patterns_of l.sought.rules.now) l.trials.states;
  added : AreAddedFrom (path_of l.sought.path) l.sought.rules.now l.keys l.first l.at
      l.fn.found.items l.found.items;
}
