use Rattle.std.proofs.Common.{◌≡◌, replicate}
use Rattle.relabel_core.specs.declared.numbers.TheConstants.{NONE}
use Rattle.relabel_core.proofs.numbers.no_numbers.Given as goal

abbrev pub invariant-places : goal.invariant-places
invariant-places l = l.numbers.items ≡ replicate l.counter NONE
