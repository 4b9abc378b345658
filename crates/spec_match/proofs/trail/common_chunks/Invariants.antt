use Rattle.std.proofs.Common.{◌≡◌, ◌*◌, take}
use Rattle.spec_match.proofs.trail.common_chunks.Given as goal

abbrev pub invariant-chunks : goal.invariant-chunks
invariant-chunks l = take (16 * l.i) l.a ≡ take (16 * l.i) l.b
