use Rattle.std.proofs.Common.{arith}
use Rattle.spec_match.proofs.TrailLemmas.{bytes_of, each_byte, positive, room_for}
use Rattle.spec_match.proofs.trail.has_no_zero.Goals as goal

pub returns-clause-from : goal.returns-clause-from
returns-clause-from c = λ e.
    let some = (room_for 0 c.bytes.least).0 e in
    bytes_of c.args.text.now (λ j l.
    let low = c.bytes.invariant.low j (omega (arith, l)) in
    let high = c.type_inv.text j in
    (omega (arith, some, low), omega (arith, high)))

pub returns-clause-onto : goal.returns-clause-onto
returns-clause-onto c = λ a.
    let some = c.bytes.invariant.some (λ j l. each_byte c.args.text.now j (omega (arith, l)) a) in
    positive c.bytes.least some
