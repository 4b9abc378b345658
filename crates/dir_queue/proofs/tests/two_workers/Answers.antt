use denote.Param.Send.{IsSend, sendable}
use Rattle.std.proofs.Crossing.{crosses}
use Rattle.dir_queue.specs.contracts.tests.QueueWorker as Worker
use Rattle.dir_queue.proofs.Sending.{seat_send, job_send, shape_sync, queue_sync}
use Rattle.dir_queue.proofs.tests.two_workers.Goals as goal

worker_send : IsSend Worker.the_row
worker_send = search (sendable, crosses, seat_send, job_send) depth 40

pub join-requires-send-A : goal.join-requires-send-A
join-requires-send-A g c κs within = search (sendable, worker_send) depth 20

pub join-requires-send-F : goal.join-requires-send-F
join-requires-send-F g c κs within = search (sendable, worker_send, shape_sync, queue_sync) depth 20
