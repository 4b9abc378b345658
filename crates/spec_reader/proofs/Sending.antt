-- What is lent to threads may be shared by them.
use denote.Param.Send.{IsSync, sendable}
use Rattle.std.proofs.Crossing.{crosses}
use Rattle.context_syntax.proofs.Sending.{context_sync}
use Rattle.pattern_syntax.proofs.Sending.{pattern_sync}
use Rattle.spec_reader.specs.contracts.spec.Spec as Spec

pub spec_sync : IsSync Spec.the_row
spec_sync = search (sendable, crosses, pattern_sync, context_sync) depth 40
