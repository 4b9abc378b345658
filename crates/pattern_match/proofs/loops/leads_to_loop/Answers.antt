use Rattle.std.proofs.Common.{length, refl, arith}
use Rattle.pattern_match.specs.Loops.{IsLoopIn}
use Rattle.pattern_match.proofs.WordBits.{bit_within}
use Rattle.pattern_match.proofs.Sweeps.{some_of, none_more, none_of}
use Rattle.pattern_match.proofs.loops.leads_to_loop.Goals as goal

pub returns-then-leads_to_loop_in : goal.returns-then-leads_to_loop_in
returns-then-leads_to_loop_in c = (
  λ _. some_of (IsLoopIn c.args.accept.now c.args.follow.now c.args.classes.now c.args.start)
      c.loop-i.i c.leads_to_loop_in.result c.leads_to_loop_in.ensures c.if-leads_to_loop_in.true,
  λ _. refl,
)

pub loop-i-preserved : goal.loop-i-preserved
loop-i-preserved c =
    none_more (IsLoopIn c.args.accept.now c.args.follow.now c.args.classes.now c.args.start)
    c.loop-i.i c.leads_to_loop_in.result c.leads_to_loop_in.ensures c.if-leads_to_loop_in.false
    c.loop-i.invariant

pub returns : goal.returns
returns c = (
  λ e. cc,
  λ h. absurd (none_of (IsLoopIn c.args.accept.now c.args.follow.now c.args.classes.now
      c.args.start) (length c.args.accept.now) (λ k l. c.loop-i.invariant k (omega arith)) h.0
      (bit_within c.args.accept.now h.0 h.1.last) h.1),
)
