use Rattle.std.proofs.Common.{◌≡◌, ℕ, ◌-◌, ◌<◌, ◌≤◌, true}
use Rattle.std.specs.Prelude.{slice_get}
use Rattle.pattern_match.specs.Over.{operation_places}
use Rattle.pattern_match.specs.States.{bit}
use Rattle.pattern_match.specs.Tables.{leads}
use Rattle.pattern_match.proofs.settling.are_steady_over.Given as goal

abbrev pub invariant-places : goal.invariant-places
invariant-places l = record {
  bound : l.p ≤ l.count;
  marked : l.p < l.count → bit l.marks l.p ≡ true;
  same : (k : ℕ) → k < l.p → bit l.marks k ≡ true → (q : ℕ)
      → leads (slice_get (operation_places l.operations) k) q ≡ bit l.marks q;
}

abbrev pub decreases-places : goal.decreases-places
decreases-places l = l.count - l.p
