use Rattle.std.proofs.Common.{◌≡◌, ◌++◌, length}
use Rattle.walk_steps.proofs.machine.row_of_queue.Given as goal

abbrev pub invariant-jobs : goal.invariant-jobs
invariant-jobs l = l.row ++ l.queue.items ≡ l.fn.queue.items

abbrev pub decreases-jobs : goal.decreases-jobs
decreases-jobs l = length l.queue.items
