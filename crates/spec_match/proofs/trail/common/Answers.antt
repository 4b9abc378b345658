use Rattle.std.proofs.Common.{arith}
use Rattle.spec_match.proofs.TrailLemmas.{differs_at}
use Rattle.spec_match.proofs.trail.common.Goals as goal

pub returns-then-a-k-clause-most : goal.returns-then-a-k-clause-most
returns-then-a-k-clause-most c = λ k la lb e.
    differs_at c.args.a.now c.args.b.now c.bytes.k k c.if-a-k.true e

pub returns-clause-most : goal.returns-clause-most
returns-clause-most c = λ k la lb _. omega (arith, la, lb)
