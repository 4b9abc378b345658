use Rattle.std.proofs.Common.{◌≡◌, ◌++◌}
use Rattle.walk_steps.proofs.machine.row_of.Given as goal

abbrev pub invariant-items : goal.invariant-items
invariant-items g l = l.row ++ l.item-iterator.rest.items ≡ l.fn.items.items
