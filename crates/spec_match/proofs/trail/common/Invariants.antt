use Rattle.std.proofs.Common.{◌≡◌, take}
use Rattle.spec_match.proofs.trail.common.Given as goal

abbrev pub invariant-bytes : goal.invariant-bytes
invariant-bytes l = take l.k l.a ≡ take l.k l.b
