use Rattle.std.proofs.Common.{◌≡◌, ◌-◌, ◌≤◌, length}
use Rattle.file_paths.specs.Path.{at_or_below}
use Rattle.file_paths.specs.PathRef.{path_of}
use Rattle.tree_model.specs.Extents.{entry_at}
use Rattle.tree_model.proofs.MarkLemmas.{IsClearedTo}
use Rattle.tree_model.proofs.exclude.clear_below.Given as goal

abbrev pub invariant-extents : goal.invariant-extents
invariant-extents l = record {
  from : l.first ≤ l.c;
  flags : length l.live.items ≡ length l.fn.live.items;
  cleared : IsClearedTo (λ e. at_or_below (entry_at l.sorted e).path (path_of l.path)) l.c
      l.fn.live.items l.live.items;
}

abbrev pub decreases-extents : goal.decreases-extents
decreases-extents l = length l.sorted - l.c
