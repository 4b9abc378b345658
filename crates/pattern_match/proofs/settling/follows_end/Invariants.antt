use Rattle.std.proofs.Common.{◌≡◌, ℕ, ◌-◌, ◌<◌, ◌≤◌, true, false}
use Rattle.pattern_match.specs.LoopTests.{ends_before}
use Rattle.pattern_match.specs.Over.{operation_places}
use Rattle.pattern_match.specs.States.{bit}
use Rattle.pattern_match.proofs.settling.follows_end.Given as goal

abbrev pub invariant-places : goal.invariant-places
invariant-places l = record {
  bound : l.p ≤ l.count;
  marked : l.p < l.count → bit l.marks l.p ≡ true;
  none : (k : ℕ) → k < l.p → bit l.marks k ≡ true
      → ends_before (operation_places l.operations) l.q k ≡ false;
}

abbrev pub decreases-places : goal.decreases-places
decreases-places l = l.count - l.p
