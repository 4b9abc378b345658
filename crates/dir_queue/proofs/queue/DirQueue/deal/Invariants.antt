use Rattle.std.proofs.Common.{◌≡◌, ◌+◌, ◌-◌, All, length}
use Rattle.dir_queue.specs.Passes.{fresh_queue}
use Rattle.dir_queue.specs.Answers.{IsQueuePassOf, queue_view, queue_shape, passes_of_queue}
use Rattle.dir_queue.proofs.queue.DirQueue.deal.Given as goal

abbrev pub invariant-passes : goal.invariant-passes
invariant-passes l =
    IsQueuePassOf l.self l.pass
    × (queue_view l.pass ≡ fresh_queue (queue_shape l.self).parents (passes_of_queue l.self)
    (l.passes - length l.all)) × (length l.all + 1 ≡ l.counter)
    × All (λ p. IsQueuePassOf l.self p
    × (queue_view p ≡ fresh_queue (queue_shape l.self).parents (passes_of_queue l.self) 1))
    l.all
