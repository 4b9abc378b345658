use Rattle.std.proofs.Common.{get_or, arith}
use Rattle.tree_model.proofs.FirstLemmas.{count_upto, first_read, firsts_over, numbered_all}
use Rattle.tree_model.proofs.FirstLemmas.{numbered_next}
use Rattle.tree_model.proofs.groups.number_by.Goals as goal

pub entries-preserved : goal.entries-preserved
entries-preserved c = record {
  few = omega (
    arith,
    c.in_ok-push_group_of.ensures.count,
    count_upto c.entries.group_of.items
        c.entries.count (get_or c.args.firsts.now c.entries.first-index 0),
    c.entries.invariant.few,
  );
  numbered = λ inodes h.
      let own = first_read inodes c.args.firsts.now c.entries.first-index h c.entries-test.true in
      numbered_next inodes c.entries.first-index c.entries.count c.entries.group_of.items own.0
      (c.entries.invariant.numbered inodes h) (get_or c.args.firsts.now c.entries.first-index 0)
      own.1
      c.push_group_of.new.group_of.items c.push_group_of.new.count
      c.in_ok-push_group_of.ensures.groups c.in_ok-push_group_of.ensures.count;
}

pub returns-clause-groups : goal.returns-clause-groups
returns-clause-groups c = λ inodes h.
    (numbered_all inodes c.entries.first-index c.entries.count c.entries.group_of.items
    (firsts_over inodes c.args.firsts.now c.entries.first-index h c.entries-test.false)
    (c.entries.invariant.numbered inodes h)).0

pub returns-clause-count : goal.returns-clause-count
returns-clause-count c = λ inodes h.
    (numbered_all inodes c.entries.first-index c.entries.count c.entries.group_of.items
    (firsts_over inodes c.args.firsts.now c.entries.first-index h c.entries-test.false)
    (c.entries.invariant.numbered inodes h)).1
