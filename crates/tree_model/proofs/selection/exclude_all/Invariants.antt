use Rattle.std.proofs.Common.{length, take}
use Rattle.std.specs.Prelude.{◌&&◌, not}
use Rattle.tree_model.specs.LiveLists.{AreFlags}
use Rattle.tree_model.specs.Selection.{is_admitted, is_excluded}
use Rattle.tree_model.proofs.selection.exclude_all.Given as goal

abbrev pub invariant-paths : goal.invariant-paths
invariant-paths l =
    AreFlags (length l.sorted) (λ e. is_admitted l.choice l.sorted l.choice.operands e
    && not (is_excluded l.sorted (take l.index l.choice.excluded) e)) l.live.items
