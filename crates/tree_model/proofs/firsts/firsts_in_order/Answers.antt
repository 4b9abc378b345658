use Rattle.std.proofs.Common.{arith, rules}
use Rattle.tree_model.specs.Firsts.{first_with_inode}
use Rattle.tree_model.proofs.BucketLemmas.{each_next}
use Rattle.tree_model.proofs.firsts.firsts_in_order.Goals as goal

pub entries-preserved : goal.entries-preserved
entries-preserved c = record {
  firsts = each_next (first_with_inode c.args.inodes.now) c.args.inodes.now c.entries.e
      c.in_ok-keep_first.field-0 c.entries.firsts.items _
      (omega (arith, c.entries-test.true, c.len-e-end.ensures)) c.in_ok-keep_first.ensures.first
      c.entries.invariant.firsts (search rules);
  put = c.in_ok-keep_first.ensures.put;
}
