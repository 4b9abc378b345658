use Rattle.std.proofs.Common.{◌≡◌, false, replicate}
use Rattle.relabel_core.proofs.report.no_flags.Given as goal

abbrev pub invariant-places : goal.invariant-places
invariant-places l = l.flags.items ≡ replicate l.counter false
