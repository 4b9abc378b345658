use Rattle.std.proofs.Common.{rules}
use Rattle.dir_queue.proofs.Keeps.{forks}
use Rattle.dir_queue.proofs.queue.DirQueue.another.Goals as goal

pub another-pass-requires-clause-rule : goal.another-pass-requires-clause-rule
another-pass-requires-clause-rule c = forks _ _ (search rules) (search rules)
