use Rattle.std.proofs.Common.{◌∙◌, ◌+◌, ap, subst, length, arith}
use Rattle.tree_model.specs.GroupLists.{AreGroupStarts, names_below}
use Rattle.tree_model.specs.ExtentEnds.{AreClosed}
use Rattle.tree_model.proofs.ExtentsByEnds.{ends_runs}
use Rattle.tree_model.proofs.KeptGroups.{groups_held, lists_groups}
use Rattle.tree_model.proofs.groups.make_groups.Goals as goal

pub closed_by-requires-clause-ends : goal.closed_by-requires-clause-ends
closed_by-requires-clause-ends c =
    ends_runs c.args.sorted.now c.requires.by_path c.args.ends.now c.requires.ends
    (omega (arith, c.requires.sized, c.requires.inside.few))

pub clear_counted-requires-clause-lists : goal.clear_counted-requires-clause-lists
clear_counted-requires-clause-lists c =
    lists_groups c.args.sorted.now c.args.numbering.group_of.items c.in_ok-kept.kept.names.items
    c.in_ok-kept.kept.starts.items c.args.numbering.count c.requires.groups c.requires.count
    (c.in_ok-kept.ensures.names
    ∙ ap (λ gs. names_below gs (length c.in_ok-chains.chains.first.items))
    c.as_slice-4.ensures.value
    ∙ ap (names_below c.args.numbering.group_of.items) c.in_ok-chains.ensures.count)
    (subst (λ k. AreGroupStarts c.args.numbering.group_of.items (k + 1)
    c.in_ok-kept.kept.starts.items) c.in_ok-chains.ensures.count
    (subst (λ gs. AreGroupStarts gs (length c.in_ok-chains.chains.first.items + 1)
    c.in_ok-kept.kept.starts.items) c.as_slice-4.ensures.value c.in_ok-kept.ensures.starts))

pub clear_counted-requires-clause-closed : goal.clear_counted-requires-clause-closed
clear_counted-requires-clause-closed c =
    groups_held c.args.sorted.now c.args.ends.now c.args.numbering.group_of.items
    c.in_ok-closed.closed.items c.requires.by_path c.requires.ends c.requires.groups
    (subst (λ gs. AreClosed gs c.args.ends.now 0 c.in_ok-closed.closed.items)
    c.as_slice-2.ensures.value c.in_ok-closed.ensures)

pub returns : goal.returns
returns c = record {
  total_is = c.requires.count;
  lists = lists_groups c.args.sorted.now c.args.numbering.group_of.items
      c.in_ok-kept.kept.names.items c.in_ok-kept.kept.starts.items c.args.numbering.count
      c.requires.groups c.requires.count
      (c.in_ok-kept.ensures.names
      ∙ ap (λ gs. names_below gs (length c.in_ok-chains.chains.first.items))
      c.as_slice-4.ensures.value
      ∙ ap (names_below c.args.numbering.group_of.items) c.in_ok-chains.ensures.count)
      (subst (λ k. AreGroupStarts c.args.numbering.group_of.items (k + 1)
      c.in_ok-kept.kept.starts.items) c.in_ok-chains.ensures.count
      (subst (λ gs. AreGroupStarts gs (length c.in_ok-chains.chains.first.items + 1)
      c.in_ok-kept.kept.starts.items) c.as_slice-4.ensures.value c.in_ok-kept.ensures.starts));
  count = c.clear_counted.ensures.sized;
  closed_are = λ d l. c.clear_counted.ensures.behind d (omega arith) l;
}
