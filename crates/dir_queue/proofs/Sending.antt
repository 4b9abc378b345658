-- A queue may be lent to threads, and a pass may cross to one and back.
use denote.Param.Send.{IsSend, IsSync, Frees, sendable, part_keyless}
use denote.RattleType.{RattleType}
use denote.Struct.Struct.{Struct}
use denote.Struct.Owning.{shape}
use Rattle.std.proofs.Crossing.{crosses}
use Rattle.label_base.proofs.Sending.{row_sync}
use Rattle.std.specs.declared.alloc.Allocator.{Ghosts}
use Rattle.atomic_table.specs.declared.shared.TableRule as Rule
use Rattle.atomic_table.specs.contracts.shared.Shared as Shared
use Rattle.atomic_table.specs.contracts.shared.Seat as Seat
use Rattle.atomic_table.specs.contracts.send_lease.SendLease as SendLease
use Rattle.atomic_table.proofs.Sent.{seat_keyless, shares_keyless}
use Rattle.atomic_table.proofs.Rights.{right_send}
use Rattle.label_base.specs.contracts.row.Row as Row
use Rattle.walk_steps.specs.contracts.shape.Shape as Shape
use Rattle.dir_queue.specs.contracts.queue.QueuePass as QueuePass
use Rattle.dir_queue.specs.contracts.queue.DirQueue as DirQueue
use Rattle.dir_queue.specs.contracts.rule.Job as Job

pub seat_send : (S V : RattleType) → IsSend S → IsSend (Seat.the_row S V)
seat_send S V s =
    record {
      owned = λ d vs. (
        (λ vss. (tt, ((λ uss. (tt, tt)), tt))),
        seat_keyless S s V.coded.code
            d.table_id d.id d.me,
      );
      leaving = λ k f vs. tt;
    }

pub shared_sync : (S V K P : RattleType) (g : Rule.Ghosts P.Denot S.Denot V.Denot K.Denot)
    → IsSend S → IsSync (Shared.the_row S V K P g)
shared_sync S V K P g s = let fields : IsSync (Struct (shape (Shared.the_type S V K P g))) =
    search sendable depth 20 in
    record {
      shared = λ d b o ν. (
        fields.shared (d.words, (d.slots, (tt, tt))) b o ν,
        shares_keyless
            S s V.coded.code d.table_id (g.holds d.key) d.words d.slots ν,
      );
    }

pub lease_sync : (T A : RattleType) (g : Ghosts A.Denot) → IsSend A → Frees g g.dealloc_token
    → IsSync (SendLease.the_row T A g)
lease_sync T A g s f =
    record {
      shared = λ d b o ν q. part_keyless (SendLease.the_row T A g) (right_send T A g f) q d b
          o;
    }

pub job_send : IsSend Job.the_row
job_send = search sendable depth 20

pub shape_sync : IsSync Shape.the_row
shape_sync = search (sendable, crosses, row_sync) depth 40

pub pass_send : IsSend QueuePass.the_row
pass_send = search (sendable, seat_send, job_send) depth 40

pub queue_sync : IsSync DirQueue.the_row
queue_sync = search (sendable, crosses, shared_sync, lease_sync, job_send) depth 40
