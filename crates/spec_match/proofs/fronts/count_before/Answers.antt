use Rattle.std.proofs.Common.{arith, ltb, rules, ◌/◌}
use Rattle.std.proofs.lemmas.Bool.{ltb-false, ltb-true}
use Rattle.std.proofs.lemmas.List.Sorted.{IsPartitionPoint-from_clause, IsPartitionedBy-ltb}
use Rattle.spec_match.specs.declared.fronts.TheConstants.{SPAN}
use Rattle.spec_match.proofs.FrontLemmas.{by_hash}
use Rattle.spec_match.proofs.fronts.count_before.Goals as goal

pub returns : goal.returns
returns c =
    let parted = IsPartitionedBy-ltb (λ x. x / SPAN) c.args.keys.now c.args.hash
    (by_hash c.args.keys.now c.requires) in
    let point = IsPartitionPoint-from_clause (λ x. ltb (x / SPAN) c.args.hash) _ _
    c.partition_point.ensures.partitioned parted (λ a r q k. search rules) in
    λ k l. (λ h. ltb-true _ _ (point.0 k 0 (omega arith) h), λ h. ltb-false _ _ (point.1 k 0 h l))
