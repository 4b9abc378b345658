-- What is lent to threads may be shared by them.
use denote.Param.Send.{IsSync, sendable}
use Rattle.std.proofs.Crossing.{crosses}
use Rattle.pattern_match.proofs.Sending.{tables_sync}
use Rattle.spec_reader.proofs.Sending.{spec_sync}
use Rattle.spec_match.specs.contracts.membership.Membership as Membership
use Rattle.spec_match.specs.contracts.compiled_spec.CompiledSpec as CompiledSpec
use Rattle.spec_match.specs.contracts.starts.Starts as Starts
use Rattle.spec_match.specs.contracts.rule_set.RuleSet as RuleSet

test_sync : IsSync Membership.the_row
test_sync = search (sendable, crosses, tables_sync) depth 40

rule_sync : IsSync CompiledSpec.the_row
rule_sync = search (sendable, crosses, spec_sync, test_sync) depth 40 fits 20000

starts_sync : IsSync Starts.the_row
starts_sync = search (sendable, crosses) depth 40

pub rule_set_sync : IsSync RuleSet.the_row
rule_set_sync = search (sendable, crosses, rule_sync, starts_sync) depth 40
