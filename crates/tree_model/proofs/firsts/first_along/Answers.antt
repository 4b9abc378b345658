use Rattle.std.proofs.Common.{◌∙◌, sym, refl, get_or, arith}
use Rattle.tree_model.proofs.BucketLemmas.{along_begun, along_found, along_next, along_within}
use Rattle.tree_model.proofs.firsts.first_along.Goals as goal

pub names-init : goal.names-init
names-init c =
    along_begun c.args.entries.now.inodes.now c.args.entries.now.buckets.now
    c.args.entries.now.first.now c.args.entries.now.next.now c.requires.bucketed c.args.e
    c.requires.within _ refl

pub is_same_inode-requires-clause-second : goal.is_same_inode-requires-clause-second
is_same_inode-requires-clause-second c =
    along_within c.args.entries.now.inodes.now c.args.entries.now.buckets.now
    c.args.entries.now.first.now c.args.entries.now.next.now c.requires.bucketed c.args.e
    c.requires.within
    c.names.found c.names.invariant

pub bounds-entries-found : goal.bounds-entries-found
bounds-entries-found c = omega (
  arith,
  along_within c.args.entries.now.inodes.now c.args.entries.now.buckets.now
      c.args.entries.now.first.now c.args.entries.now.next.now c.requires.bucketed c.args.e
      c.requires.within
      c.names.found c.names.invariant,
  c.requires.bucketed.count,
  c.requires.bucketed.behind.sized,
)

pub names-smaller : goal.names-smaller
names-smaller c = omega (
  arith,
  along_within c.args.entries.now.inodes.now c.args.entries.now.buckets.now
      c.args.entries.now.first.now c.args.entries.now.next.now c.requires.bucketed c.args.e
      c.requires.within
      c.names.found c.names.invariant,
  (along_next c.args.entries.now.inodes.now c.args.entries.now.buckets.now
      c.args.entries.now.first.now c.args.entries.now.next.now c.requires.bucketed c.args.e
      c.requires.within
      c.names.found c.names.invariant (get_or c.args.entries.now.next.now c.names.found 0)
      (sym c.is_same_inode.ensures ∙ c.names-test.true) refl).1,
)

pub names-preserved : goal.names-preserved
names-preserved c =
    (along_next c.args.entries.now.inodes.now c.args.entries.now.buckets.now
    c.args.entries.now.first.now c.args.entries.now.next.now c.requires.bucketed c.args.e
    c.requires.within
    c.names.found c.names.invariant (get_or c.args.entries.now.next.now c.names.found 0)
    (sym c.is_same_inode.ensures ∙ c.names-test.true) refl).0

pub returns : goal.returns
returns c = λ _.
    along_found c.args.entries.now.inodes.now c.args.entries.now.buckets.now
    c.args.entries.now.first.now c.args.entries.now.next.now c.requires.bucketed c.args.e
    c.requires.within
    c.names.found c.names.invariant (sym c.is_same_inode.ensures ∙ c.names-test.false)
