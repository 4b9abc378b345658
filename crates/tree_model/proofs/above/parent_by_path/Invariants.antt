use Rattle.std.proofs.Common.{◌≡◌, length}
use Rattle.file_paths.specs.PathRef.{path_of}
use Rattle.tree_model.specs.Extents.{parent_of}
use Rattle.tree_model.proofs.FrontLemmas.{nearest_above}
use Rattle.tree_model.proofs.above.parent_by_path.Given as goal

abbrev pub invariant-tops : goal.invariant-tops
invariant-tops l = nearest_above l.sorted (path_of l.path) ≡ parent_of l.sorted l.e

abbrev pub decreases-tops : goal.decreases-tops
decreases-tops l = length (path_of l.path)
