use Rattle.std.proofs.Common.{◌≡◌, replicate}
use Rattle.relabel_core.specs.declared.swept.Skip.TheVariants.{Not}
use Rattle.relabel_core.proofs.swept.none_skipped.Given as goal

abbrev pub invariant-places : goal.invariant-places
invariant-places l = l.skips.items ≡ replicate l.counter Not
