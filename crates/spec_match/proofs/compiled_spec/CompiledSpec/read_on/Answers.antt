use Rattle.std.proofs.Common.{◌∙◌, arith, refl}
use Rattle.spec_match.proofs.AliveLemmas.{read_dead, read_stands}
use Rattle.spec_match.proofs.compiled_spec.CompiledSpec.read_on.Goals as goal

pub text-preserved : goal.text-preserved
text-preserved c = record {
  room = c.step.ensures.room ∙ c.text.invariant.room;
  made = c.step.ensures.own;
  stands = λ front s. read_stands c.args.self.now.spec.pattern c.step.new.states.known front
      c.args.text.now c.text.byte-index c.text-test.true
      (c.step.ensures.stands _ (c.text.invariant.stands front s));
}

pub returns-then-not-alive-clause-dead : goal.returns-then-not-alive-clause-dead
returns-then-not-alive-clause-dead c = λ _ front s.
    read_dead c.args.self.now.spec.pattern c.step.new.states.known front c.args.text.now
    c.text.byte-index
    _ c.alive.result (omega arith) refl c.if-not-alive.true (λ x h. (c.alive.ensures x h).1)
    (c.step.ensures.stands _ (c.text.invariant.stands front s))
