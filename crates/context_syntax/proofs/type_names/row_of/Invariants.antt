use Rattle.std.proofs.Common.{◌≡◌}
use Rattle.context_syntax.proofs.type_names.row_of.Given as goal

abbrev pub invariant-names : goal.invariant-names
invariant-names l = l.row ≡ l.yielded
