use Rattle.std.proofs.Common.{◌≡◌, ◌+◌, ◌*◌, ◌<◌, ◌/◌, ◌%◌, arith}
use Rattle.pattern_match.proofs.taking.keep_taking.Goals as goal

pub returns-clause-bits : goal.returns-clause-bits
returns-clause-bits c = λ k l.
    let h : k / 64 < c.words.i = omega arith in
    let e : 64 * (k / 64) + k % 64 ≡ k = omega arith in
    (rw e at (c.words.invariant.1 (k / 64) h (k % 64) (omega arith)))
