use Rattle.std.proofs.Common.{ℕ, arith}
use Rattle.pattern_syntax.proofs.Sets.{with_bit}
use Rattle.pattern_syntax.proofs.byte_set.ByteSet.with.Goals as goal

pub returns : goal.returns
returns c = λ (b : ℕ). rw c.from-i.ensures
    (with_bit c.args.self.now.words c.args.b b (omega arith) (omega arith))
