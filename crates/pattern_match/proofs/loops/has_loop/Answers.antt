use Rattle.std.proofs.Common.{length, refl, arith}
use Rattle.pattern_match.specs.Loops.{EndsBeforeLoop}
use Rattle.pattern_match.proofs.WordBits.{bit_within}
use Rattle.pattern_match.proofs.Sweeps.{some_of, none_more, none_of}
use Rattle.pattern_match.proofs.loops.has_loop.Goals as goal

pub returns-then-has_loop_in : goal.returns-then-has_loop_in
returns-then-has_loop_in c = (
  λ _. some_of (EndsBeforeLoop c.args.marks.now c.args.accept.now c.args.follow.now
      c.args.classes.now) c.loop-i.i c.has_loop_in.result c.has_loop_in.ensures
      c.if-has_loop_in.true,
  λ _. refl,
)

pub loop-i-preserved : goal.loop-i-preserved
loop-i-preserved c =
    none_more (EndsBeforeLoop c.args.marks.now c.args.accept.now c.args.follow.now
    c.args.classes.now) c.loop-i.i c.has_loop_in.result c.has_loop_in.ensures c.if-has_loop_in.false
    c.loop-i.invariant

pub returns : goal.returns
returns c = (
  λ e. cc,
  λ h. absurd (none_of (EndsBeforeLoop c.args.marks.now c.args.accept.now c.args.follow.now
      c.args.classes.now) (length c.args.marks.now) (λ k l. c.loop-i.invariant k (omega arith)) h.0
      (bit_within c.args.marks.now h.0 h.1.marked) h.1),
)
