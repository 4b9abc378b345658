use Rattle.std.proofs.Common.{◌≡◌, ◌<◌, ◌≤◌, ◌+◌, ◌*◌, ℕ, false}
use Rattle.pattern_match.specs.States.{bit}
use Rattle.pattern_match.proofs.bits.next_marked.Given as goal

abbrev pub invariant-words : goal.invariant-words
invariant-words l = record {
  few : l.skipped < 64;
  from : l.from ≤ 64 * l.i + l.skipped;
  none : (k : ℕ) → l.from ≤ k → k < 64 * l.i + l.skipped → bit l.words k ≡ false;
}
