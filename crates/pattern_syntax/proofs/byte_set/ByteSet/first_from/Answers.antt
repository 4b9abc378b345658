use Rattle.std.proofs.Common.{arith, ap, ◌∙◌, sym, cond, ◌∷◌, ◌+◌}
use Rattle.pattern_syntax.specs.ByteSet.{has_byte, bytes_from}
use Rattle.pattern_syntax.proofs.Sets.{filter_from}
use Rattle.pattern_syntax.proofs.byte_set.ByteSet.first_from.Goals as goal

pub returns-then-has : goal.returns-then-has
returns-then-has c =
    let p = has_byte c.args.self.now in
    c.loop-b.invariant ∙ filter_from p c.loop-b.b (omega arith)
    ∙ ap (λ t. cond t (c.loop-b.b ∷ bytes_from p (c.loop-b.b + 1)) (bytes_from p (c.loop-b.b + 1)))
    (sym c.has.ensures ∙ c.if-has.true)

pub loop-b-preserved : goal.loop-b-preserved
loop-b-preserved c =
    let p = has_byte c.args.self.now in
    c.loop-b.invariant ∙ filter_from p c.loop-b.b (omega arith)
    ∙ ap (λ t. cond t (c.loop-b.b ∷ bytes_from p (c.loop-b.b + 1)) (bytes_from p (c.loop-b.b + 1)))
    (sym c.has.ensures ∙ c.if-has.false)
