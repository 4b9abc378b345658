use Rattle.std.proofs.Common.{◌∙◌, ap, sym, subst, length, arith}
use Rattle.tree_model.specs.GroupLists.{AreGroupHeads, AreNext}
use Rattle.tree_model.proofs.BucketLemmas.{buckets_are_groups, bucketed}
use Rattle.tree_model.proofs.firsts.firsts_by_buckets.Goals as goal

pub make_chains-requires : goal.make_chains-requires
make_chains-requires c =
    buckets_are_groups c.args.inodes.now c.as_slice.result.now c.max-count.result
    (omega (arith, c.max-count.ensures)) (omega (arith, c.len.ensures))
    (c.as_slice.ensures.value ∙ c.in_ok-buckets.ensures)

pub firsts_along-requires : goal.firsts_along-requires
firsts_along-requires c =
    bucketed c.args.inodes.now c.as_slice-2.result.now c.max-count.result c.as_slice-3.result.now
    c.as_slice-4.result.now (omega (arith, c.max-count.ensures)) (omega (arith, c.len.ensures))
    (c.as_slice-2.ensures.value ∙ c.in_ok-buckets.ensures)
    (ap length c.as_slice-3.ensures.value ∙ c.in_ok-chains.ensures.count)
    (subst (λ bs. AreGroupHeads bs 0 c.as_slice-3.result.now)
    (c.as_slice.ensures.value ∙ sym c.as_slice-2.ensures.value)
    (subst (AreGroupHeads c.as_slice.result.now 0) (sym c.as_slice-3.ensures.value)
    c.in_ok-chains.ensures.first))
    (subst (λ bs. AreNext bs 0 c.as_slice-4.result.now)
    (c.as_slice.ensures.value ∙ sym c.as_slice-2.ensures.value)
    (subst (AreNext c.as_slice.result.now 0) (sym c.as_slice-4.ensures.value)
    c.in_ok-chains.ensures.next))
