use Rattle.std.proofs.Common.{◌≡◌, ◌++◌, length, take, drop}
use Rattle.tree_model.specs.LiveLists.{AreFlags}
use Rattle.tree_model.specs.Selection.{absent_from, is_admitted}
use Rattle.tree_model.proofs.selection.select_in.Given as goal

abbrev pub invariant-operands : goal.invariant-operands
invariant-operands l = record {
  flags : AreFlags (length l.sorted)
      (is_admitted l.choice l.sorted (take l.index l.choice.operands)) l.admitted.live.items;
  absent : l.admitted.absent ++ absent_from l.index l.sorted (drop l.index l.choice.operands)
      ≡ absent_from 0 l.sorted l.choice.operands;
}
