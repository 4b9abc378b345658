use Rattle.std.proofs.Common.{◌∙◌, ap, arith, rules}
use Rattle.tree_model.specs.Firsts.{inode_bucket}
use Rattle.tree_model.proofs.BucketLemmas.{each_next}
use Rattle.tree_model.proofs.firsts.all_buckets.Goals as goal

pub entries-preserved : goal.entries-preserved
entries-preserved c = each_next (inode_bucket c.args.count) c.args.inodes.now c.entries.e _
    c.entries.buckets.items _ (omega (arith, c.entries-test.true, c.len-e-end.ensures))
    (c.bucket_of.ensures ∙ ap (inode_bucket c.args.count) c.get.ensures) c.entries.invariant
    (search rules)
