use Rattle.std.proofs.Common.{arith, leb, leb-true, rules, ◌/◌}
use Rattle.std.proofs.lemmas.Bool.{leb-false}
use Rattle.std.proofs.lemmas.List.Sorted.{IsPartitionPoint-from_clause, IsPartitionedBy-leb}
use Rattle.spec_match.specs.declared.fronts.TheConstants.{SPAN}
use Rattle.spec_match.proofs.FrontLemmas.{by_hash}
use Rattle.spec_match.proofs.fronts.count_to.Goals as goal

pub returns-clause-parted : goal.returns-clause-parted
returns-clause-parted c =
    let parted = IsPartitionedBy-leb (λ x. x / SPAN) c.args.keys.now c.args.hash
    (by_hash c.args.keys.now c.requires) in
    let point = IsPartitionPoint-from_clause (λ x. leb (x / SPAN) c.args.hash) _ _
    c.partition_point.ensures.partitioned parted (λ a r q k. search rules) in
    λ k l. (λ h. leb-true _ _ (point.0 k 0 (omega arith) h), λ h. leb-false _ _ (point.1 k 0 h l))
