use Rattle.std.proofs.Common.{◌+◌, ◌∙◌, ◌==◌, ap, w64, arith}
use Rattle.std.specs.Prelude.{◌||◌, ◌&&◌}
use Rattle.std.specs.Int.{bit_at, trailing_zeros}
use Rattle.pattern_match.specs.Class.{takes_at}
use Rattle.pattern_match.proofs.Keeping.{kept_more, kept_all, none_kept}
use Rattle.pattern_match.proofs.taking.taking.Goals as goal

pub bits-init : goal.bits-init
bits-init c =
    λ k l. none_kept c.args.word k (takes_at c.args.classes.now (c.args.start + k) c.args.b)

pub bits-preserved : goal.bits-preserved
bits-preserved c = λ k l. kept_more c.with_bit_if-kept.result c.bits.kept c.bits.left k
    (λ j. takes_at c.args.classes.now (c.args.start + j) c.args.b) _ (omega arith) (omega arith)
    (c.with_bit_if-kept.ensures k l
    ∙ ap (λ v. (bit_at c.bits.kept k == 1) || (v && (k == trailing_zeros w64 c.bits.left)))
    c.has_at.ensures) (c.bits.invariant k l)

pub returns : goal.returns
returns c = λ k l. kept_all c.bits.kept c.bits.left k _ _ (omega arith) (c.bits.invariant k l)
