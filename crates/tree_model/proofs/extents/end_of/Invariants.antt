use Rattle.std.proofs.Common.{length, ◌-◌}
use Rattle.tree_model.proofs.KeptLemmas.{Inside}
use Rattle.tree_model.proofs.extents.end_of.Given as goal

abbrev pub invariant-below : goal.invariant-below
invariant-below l = Inside l.sorted l.d l.c

abbrev pub decreases-below : goal.decreases-below
decreases-below l = length l.sorted - l.c
