use Rattle.std.proofs.Common.{◌≡◌, ◌<◌, ◌-◌, ◌++◌, length, get_or}
use Rattle.tree_model.specs.GroupLists.{names_at}
use Rattle.tree_model.proofs.groups.push_names.Given as goal

abbrev pub invariant-names : goal.invariant-names
invariant-names l = record {
  names : l.names.items ++ names_at l.groups l.e l.group ≡ l.fn.names.items ++ names_at l.groups 0
      l.group;
  own : l.e < length l.groups → get_or l.groups l.e 0 ≡ l.group;
}

abbrev pub decreases-names : goal.decreases-names
decreases-names l = length l.next - l.e
