use Rattle.std.proofs.Common.{◌-◌, length}
use Rattle.tree_model.proofs.BucketLemmas.{IsAlong}
use Rattle.tree_model.proofs.firsts.first_along.Given as goal

abbrev pub invariant-names : goal.invariant-names
invariant-names l = IsAlong l.entries.inodes.now l.entries.buckets.now l.e l.found

abbrev pub decreases-names : goal.decreases-names
decreases-names l = length l.entries.inodes.now - l.found
