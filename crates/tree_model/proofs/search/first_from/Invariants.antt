use Rattle.std.proofs.Common.{◌-◌}
use Rattle.file_paths.specs.PathRef.{path_of}
use Rattle.tree_model.specs.Search.{IsBetween}
use Rattle.tree_model.proofs.search.first_from.Given as goal

abbrev pub invariant-halves : goal.invariant-halves
invariant-halves l = IsBetween (path_of l.path) l.records l.bounds.0 l.bounds.1

abbrev pub decreases-halves : goal.decreases-halves
decreases-halves l = l.bounds.1 - l.bounds.0
