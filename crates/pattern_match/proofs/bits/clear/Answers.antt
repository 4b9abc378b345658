use Rattle.std.proofs.Common.{◌<◌, ◌/◌, length, arith}
use Rattle.pattern_match.proofs.WordBits.{no_bit}
use Rattle.pattern_match.proofs.bits.clear.Goals as goal

pub returns-clause-bits : goal.returns-clause-bits
returns-clause-bits c =
    λ k l. no_bit c.loop-i.words k
    (c.loop-i.invariant.1 (k / 64) (let h : k / 64 < length c.args.words.now = omega arith in
    omega arith))
