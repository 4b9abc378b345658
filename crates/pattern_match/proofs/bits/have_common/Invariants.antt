use Rattle.std.proofs.Common.{◌≡◌, ◌<◌, ℕ, get_or}
use Rattle.std.specs.Prelude.{bit_and}
use Rattle.pattern_match.proofs.bits.have_common.Given as goal

abbrev pub invariant-loop-i : goal.invariant-loop-i
invariant-loop-i l = (k : ℕ) → k < l.i → bit_and (get_or l.words k 0) (get_or l.others k 0) ≡ 0
