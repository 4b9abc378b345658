-- What is lent to threads and comes back from them may cross.
use denote.Param.Send.{IsSend, IsSync, sendable}
use Rattle.std.proofs.Crossing.{crosses}
use denote.RattleType.{RattleType}
use Rattle.label_base.specs.contracts.bytes.Bytes as Bytes
use Rattle.label_base.specs.contracts.name.Name as Name
use Rattle.label_base.specs.contracts.row.Row as Row

pub bytes_send : IsSend Bytes.the_row
bytes_send = search (sendable, crosses) depth 40

pub bytes_sync : IsSync Bytes.the_row
bytes_sync = search (sendable, crosses) depth 40

pub name_send : IsSend Name.the_row
name_send = search (sendable, crosses) depth 40

pub name_sync : IsSync Name.the_row
name_sync = search (sendable, crosses) depth 40

pub row_send : (T : RattleType) → IsSend T → IsSend (Row.the_row T)
row_send T s = search (sendable, crosses) depth 40

pub row_sync : (T : RattleType) → IsSync T → IsSync (Row.the_row T)
row_sync T s = search (sendable, crosses) depth 40
