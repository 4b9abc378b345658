-- What is lent to threads may be shared by them.
use denote.Param.Send.{IsSync, sendable}
use Rattle.std.proofs.Crossing.{crosses}
use Rattle.label_base.proofs.Sending.{bytes_sync, row_sync}
use Rattle.path_subs.specs.contracts.subs.Subs as Subs

pub subs_sync : IsSync Subs.the_row
subs_sync = search (sendable, crosses, bytes_sync, row_sync) depth 60
