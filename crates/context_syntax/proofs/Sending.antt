-- What is lent to threads may be shared by them.
use denote.Param.Send.{IsSync, sendable}
use Rattle.std.proofs.Crossing.{crosses}
use Rattle.label_base.proofs.Sending.{bytes_sync, row_sync}
use Rattle.context_syntax.specs.contracts.context.Context as Context
use Rattle.context_syntax.specs.contracts.type_names.TypeNames as TypeNames

pub context_sync : IsSync Context.the_row
context_sync = search (sendable, crosses, bytes_sync) depth 40

pub types_sync : IsSync TypeNames.the_row
types_sync = search (sendable, crosses, bytes_sync, row_sync) depth 40
