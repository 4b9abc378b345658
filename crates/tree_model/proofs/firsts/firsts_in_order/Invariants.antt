use Rattle.std.proofs.Common.{◌≡◌, take}
use Rattle.tree_model.specs.Firsts.{AreFirstsPut, firsts_of}
use Rattle.tree_model.proofs.firsts.firsts_in_order.Given as goal

abbrev pub invariant-entries : goal.invariant-entries
invariant-entries l = record {
  firsts : l.firsts.items ≡ take l.e (firsts_of l.inodes);
  put : AreFirstsPut l.inodes l.e l.kept;
}
