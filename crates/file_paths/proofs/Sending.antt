-- What is lent to threads may be shared by them.
use denote.Param.Send.{IsSync, sendable}
use Rattle.std.proofs.Crossing.{crosses}
use Rattle.label_base.proofs.Sending.{bytes_sync, name_sync, row_sync}
use Rattle.file_paths.specs.contracts.path.NormPath as NormPath

pub path_sync : IsSync NormPath.the_row
path_sync = search (sendable, crosses, bytes_sync, name_sync, row_sync) depth 40
