use Rattle.std.proofs.Common.{◌≡◌, ℕ, ◌<◌, false}
use Rattle.std.specs.Prelude.{None}
use Rattle.tree_model.specs.Extents.{entry_at}
use Rattle.tree_model.proofs.groups.has_counts.Given as goal

abbrev pub invariant-entries : goal.invariant-entries
invariant-entries l = l.counted ≡ false → (k : ℕ) → k < l.e → (entry_at l.sorted k).links ≡ None
