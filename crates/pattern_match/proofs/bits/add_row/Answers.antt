use Rattle.std.proofs.Common.{◌<◌, ◌/◌, length, arith}
use Rattle.pattern_match.proofs.WordBits.{bit_either}
use Rattle.pattern_match.proofs.bits.add_row.Goals as goal

pub returns-clause-bits : goal.returns-clause-bits
returns-clause-bits c = λ k l. bit_either c.loop-i.to c.args.to.now c.args.table.now
    c.args.start k
    (c.loop-i.invariant.1 (k / 64) (let h : k / 64 < length c.args.to.now = omega arith in
    omega arith))
