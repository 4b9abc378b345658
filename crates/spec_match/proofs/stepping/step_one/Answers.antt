use Rattle.std.proofs.Common.{inl, refl}
use Rattle.spec_match.specs.Alive.{alive_at, alive_list}
use Rattle.spec_match.proofs.AliveLemmas.{other_byte}
use Rattle.spec_match.proofs.ScratchLemmas.{marks_fit}
use Rattle.spec_match.proofs.stepping.step_one.Goals as goal

pub returns-then-wants_other-clause-goes : goal.returns-then-wants_other-clause-goes
returns-then-wants_other-clause-goes c = inl (record {
  same = refl;
  dead = λ text s. other_byte c.args.rule.now.spec.pattern
      (alive_at (alive_list c.args.lists.now.lists c.args.step.from) c.args.k) c.args.step.byte
      c.requires.wants (c.if-wants_other.ensures.other refl) text s;
})

pub load-requires-clause-width : goal.load-requires-clause-width
load-requires-clause-width c =
    marks_fit c.args.rule.now.spec.pattern
    (alive_at (alive_list c.args.lists.now.lists c.args.step.from) c.args.k).states
    c.args.states.now.room
    c.requires.kept c.requires.room
