-- What workers are lent, and what they hold, may cross threads.
use mathlib.Core.List.{List, [], ◌∷◌}
use mir.Syntax.{Sym}
use denote.Param.Send.{AllSend, IsSend, IsSync, sendable}
use denote.Param.SendFields.{FieldsHave, as_row_send, declared_send}
use denote.Struct.Field.{row_field, u32-field}
use denote.Struct.Tuple.{TupleAt, parts, type_at}
use denote.RattleType.{RattleType}
use Rattle.std.proofs.Crossing.{crosses}
use Rattle.inode_claims.specs.contracts.claims.Claims as Claims
use Rattle.dir_queue.proofs.Sending.{job_send, lease_sync, seat_send, shared_sync}
use Rattle.relabel_core.specs.contracts.options.Options as Options
use Rattle.relabel_workers.specs.contracts.note.Note as Note
use Rattle.relabel_workers.specs.contracts.share.Share as Share

pub claims_sync : IsSync Claims.the_row
claims_sync = search (sendable, crosses, shared_sync, lease_sync) depth 40

note_send : IsSend Note.the_row
note_send = search (sendable, crosses) depth 40

pub share_send : IsSend Share.the_row
share_send = search (sendable, crosses, seat_send, job_send, note_send) depth 60

pub options_sync : IsSync Options.the_row
options_sync = search (sendable, crosses) depth 40

pub word_sync : IsSync (u32-field).row
word_sync = search sendable depth 10

parts_send : (Ts : List RattleType) → AllSend Ts → FieldsHave IsSend (parts Ts)
parts_send [] s = tt
parts_send (T ∷ Ts) s = (as_row_send (row_field T) s.0, parts_send Ts s.1)

-- a closure crosses where each value that it captures does
pub captures_send : (ν : Sym) (Ts : List RattleType) → AllSend Ts → IsSend (TupleAt ν Ts)
captures_send ν Ts s = declared_send (type_at ν Ts) (parts_send Ts s)
