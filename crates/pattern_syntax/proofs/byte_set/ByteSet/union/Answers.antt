use Rattle.std.proofs.Common.{ℕ, ◌/◌, ◌%◌, arith}
use std.Path.{fun_ext}
use Rattle.pattern_syntax.proofs.Sets.{union_bit}
use Rattle.pattern_syntax.proofs.byte_set.ByteSet.union.Goals as goal

pub returns : goal.returns
returns c = fun_ext (λ (b : ℕ). union_bit c.args.self.now.words c.args.other.now.words (b / 64)
    (b % 64) (omega arith) (omega arith))
