use Rattle.std.proofs.Common.{◌≡◌}
use Rattle.dir_queue.specs.Answers.{IsQueuePassOf, queue_view, queue_shape}
use Rattle.dir_queue.proofs.tests.work.Given as goal

abbrev pub invariant-turns : goal.invariant-turns
invariant-turns g l = IsQueuePassOf l.queue l.pass × (queue_shape l.queue ≡ l.shape)
    × ((queue_view l.pass).stands_for ≡ (queue_view l.fn.worker.pass).stands_for)
