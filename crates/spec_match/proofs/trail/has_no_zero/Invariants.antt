use Rattle.std.proofs.Common.{ℕ, ◌<◌, ◌≤◌, get_or}
use Rattle.spec_match.proofs.trail.has_no_zero.Given as goal

abbrev pub invariant-bytes : goal.invariant-bytes
invariant-bytes l = record {
  low : (j : ℕ) → j < l.byte-index → l.least ≤ get_or l.text j 0;
  some : ((j : ℕ) → j < l.byte-index → 0 < get_or l.text j 0) → 0 < l.least;
}
