use Rattle.std.proofs.Common.{◌≡◌, ◌++◌}
use Rattle.relabel_workers.proofs.notes.add_rows.Given as goal

abbrev pub invariant-rows : goal.invariant-rows
invariant-rows l = l.rows.items ++ l.row-iterator.rest.items ≡ l.fn.rows.items ++ l.fn.more.items
