use Rattle.std.proofs.Common.{◌≡◌, ◌+◌, ◌*◌, ◌/◌, ◌%◌, ◌<◌, true, refl, subst, arith}
use borrow.Author.Count.{below_more}
use Rattle.pattern_match.specs.States.{bit}
use Rattle.pattern_match.specs.Loops.{IsSteady, AreSteady}
use Rattle.pattern_match.proofs.WordBits.{bit_within}
use Rattle.pattern_match.proofs.steady.are_steady.Goals as goal

pub loop-i-preserved : goal.loop-i-preserved
loop-i-preserved c =
    below_more _ _ c.loop-i.invariant (c.are_steady_in.ensures.0 c.if-not-are_steady_in.false)

pub returns : goal.returns
returns c = (λ _. all, λ _. refl)
  where
    all : AreSteady c.args.marks.now c.args.follow.now c.args.classes.now
    all p h =
        let l = bit_within c.args.marks.now p h in
        let e : 64 * (p / 64) + p % 64 ≡ p = omega arith in
        let w : p / 64 < c.loop-i.i = omega arith in
        subst (λ q. bit c.args.marks.now q ≡ true → IsSteady c.args.marks.now c.args.follow.now
        c.args.classes.now q) e (c.loop-i.invariant (p / 64) w (p % 64) (omega arith)) h
