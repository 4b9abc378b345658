use Rattle.std.proofs.Common.{ℕ, arith}
use std.Path.{fun_ext}
use Rattle.pattern_syntax.proofs.Sets.{not_words}
use Rattle.pattern_syntax.proofs.byte_set.ByteSet.complement.Goals as goal

pub returns : goal.returns
returns c = fun_ext (λ (n : ℕ). not_words c.args.self.now.words n (omega arith) (omega arith)
    (omega arith) (omega arith) (omega arith))
