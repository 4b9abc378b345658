use Rattle.std.proofs.Common.{◌<◌, length, arith, rules}
use Rattle.tree_model.specs.Firsts.{first_with_inode}
use Rattle.tree_model.proofs.BucketLemmas.{each_next}
use Rattle.tree_model.proofs.firsts.firsts_along.Goals as goal

pub entries-preserved : goal.entries-preserved
entries-preserved c =
    let known : c.first_along-first.result < length c.args.entries.now.inodes.now =
    omega (arith, c.if-first-count.false, c.len-count.ensures) in
    each_next (first_with_inode c.args.entries.now.inodes.now) c.args.entries.now.inodes.now
    c.entries.e c.first_along-first.result c.entries.firsts.items _
    (omega (arith, c.entries-test.true, c.len-count.ensures)) (c.first_along-first.ensures known)
    c.entries.invariant (search rules)
