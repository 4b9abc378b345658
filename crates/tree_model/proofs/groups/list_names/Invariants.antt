use Rattle.std.proofs.Common.{◌≡◌}
use Rattle.tree_model.specs.GroupLists.{AreGroupStarts, names_below}
use Rattle.tree_model.proofs.groups.list_names.Given as goal

abbrev pub invariant-groups : goal.invariant-groups
invariant-groups l = record {
  names : l.kept.names.items ≡ names_below l.groups l.group;
  starts : AreGroupStarts l.groups l.group l.kept.starts.items;
}
