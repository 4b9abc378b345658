use Rattle.std.proofs.Common.{arith, ap, ◌∙◌, ℕ, ◌||◌}
use Rattle.std.specs.Prelude.{◌==◌}
use Rattle.pattern_syntax.specs.ByteSet.{has_byte}
use Rattle.pattern_syntax.proofs.Sets.{range_more, range_none, range_all}
use Rattle.pattern_syntax.proofs.byte_set.ByteSet.with_range.Goals as goal

pub loop-b-init : goal.loop-b-init
loop-b-init c =
    record {
      bytes = λ (n : ℕ). rw c.from-b.ensures
          (range_none (has_byte c.args.self.now n) c.args.low n);
      bound = omega arith;
    }

pub loop-b-preserved : goal.loop-b-preserved
loop-b-preserved c = record {
  bytes = λ (n : ℕ). c.with-set.ensures n
      ∙ ap (λ t. t || (n == c.loop-b.b)) (c.loop-b.invariant.bytes n)
      ∙ range_more (has_byte c.args.self.now n) c.args.low c.loop-b.b n (omega arith);
  bound = omega arith;
}

pub returns : goal.returns
returns c = λ (n : ℕ). c.loop-b.invariant.bytes n ∙ range_all (has_byte c.args.self.now n)
    c.args.low c.args.high c.loop-b.b n (λ h. omega arith) (λ h. omega arith)
