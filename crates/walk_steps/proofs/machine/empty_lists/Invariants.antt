use Rattle.std.proofs.Common.{◌≡◌, [], replicate}
use Rattle.walk_steps.proofs.machine.empty_lists.Given as goal

abbrev pub invariant-lists : goal.invariant-lists
invariant-lists l = l.lists.items ≡ replicate l.counter []
