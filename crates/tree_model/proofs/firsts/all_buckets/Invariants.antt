use Rattle.std.proofs.Common.{◌≡◌, map, take}
use Rattle.tree_model.specs.Firsts.{inode_bucket}
use Rattle.tree_model.proofs.firsts.all_buckets.Given as goal

abbrev pub invariant-entries : goal.invariant-entries
invariant-entries l = l.buckets.items ≡ take l.e (map (inode_bucket l.count) l.inodes)
