use Rattle.std.proofs.Common.{◌≡◌, ℕ, ◌-◌, ◌<◌, ◌≤◌, true, false}
use Rattle.pattern_match.specs.LoopTests.{is_loop_behind}
use Rattle.pattern_match.specs.Over.{operation_places}
use Rattle.pattern_match.specs.States.{bit}
use Rattle.pattern_match.proofs.settling.has_loop_over.Given as goal

abbrev pub invariant-places : goal.invariant-places
invariant-places l = record {
  bound : l.q ≤ l.count;
  marked : l.q < l.count → bit l.row l.q ≡ true;
  none : (k : ℕ) → k < l.q → bit l.row k ≡ true
      → is_loop_behind (operation_places l.operations) l.marks k ≡ false;
}

abbrev pub decreases-places : goal.decreases-places
decreases-places l = l.count - l.q
