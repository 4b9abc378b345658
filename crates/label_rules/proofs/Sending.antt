-- What is lent to threads may be shared by them.
use denote.Param.Send.{IsSync, sendable}
use Rattle.std.proofs.Crossing.{crosses}
use Rattle.context_syntax.proofs.Sending.{types_sync}
use Rattle.spec_match.proofs.Sending.{rule_set_sync}
use Rattle.path_subs.proofs.Sending.{subs_sync}
use Rattle.label_rules.specs.contracts.rules.Rules as Rules

pub rules_sync : IsSync Rules.the_row
rules_sync = search (sendable, crosses, types_sync, rule_set_sync, subs_sync) depth 60
