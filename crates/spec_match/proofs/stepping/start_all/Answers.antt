use Rattle.std.proofs.Common.{◌<◌, ◌-◌, ◌∙◌, ◌++◌, ◌∷◌, [], ap, arith, length}
use Rattle.std.proofs.Common.{slice_get}
use Rattle.pattern_syntax.specs.Literal.{literal_start_of}
use Rattle.spec_match.specs.Alive.{alive}
use Rattle.spec_match.specs.StatesFor.{patterns_of}
use Rattle.spec_match.specs.Written.{Written}
use Rattle.spec_match.specs.declared.compiled_spec.CompiledSpec.{CompiledSpec}
use Rattle.spec_match.proofs.AliveLemmas.{all_started, started_on}
use Rattle.spec_match.proofs.ScratchLemmas.{room_own, states_kept}
use Rattle.spec_match.proofs.AnswerLemmas.{count_rules, pattern_of_rule}
use Rattle.spec_match.proofs.stepping.start_all.Goals as goal

pub restart-requires : goal.restart-requires
restart-requires c =
    room_own c.args.rules.now c.rules.states (c.rules.left - 1) c.index-rules-left.result
    (omega (arith, c.rules-test.true, c.rules.invariant.within)) c.index-rules-left.is
    c.rules.invariant.states

pub returns-then-not-push-clause-states : goal.returns-then-not-push-clause-states
returns-then-not-push-clause-states c =
    states_kept (patterns_of c.args.rules.now) c.rules.states c.restart.new.states
    c.restart.ensures.room c.rules.invariant.states

pub rules-preserved : goal.rules-preserved
rules-preserved c =
    let i = c.rules.left - 1 in
    let rule = c.index-rules-left.result in
    let l : i < length c.args.rules.now = omega arith in
    let states = states_kept (patterns_of c.args.rules.now) c.rules.states c.restart.new.states
    c.restart.ensures.room c.rules.invariant.states in
    let wants = c.wants.ensures ∙ ap (slice_get (literal_start_of rule.spec.pattern))
    c.seen.ensures in
    let pattern = ap (λ (r : CompiledSpec). r.spec.pattern) c.index-rules-left.is
    ∙ pattern_of_rule c.args.rules.now i rule l in record {
      states = states;
      lists = ap (λ (w : Written). w.lists) c.if-not-push.ensures ∙ c.rules.invariant.lists;
      within = omega arith;
      started = started_on (patterns_of c.args.rules.now) rule.spec.pattern
          c.restart.new.states.known
          c.rules.lists.draft c.push.new.self.draft i c.rules.left (omega arith)
          (omega (arith, count_rules c.args.rules.now)) pattern c.restart.ensures.own
          c.restart.ensures.stands
          (ap (λ (w : Written). w.draft) c.if-not-push.ensures
          ∙ ap (λ w. c.rules.lists.draft ++ alive i c.restart.new.states.known w ∷ []) wants)
          c.rules.invariant.started;
    }

pub returns-clause-alive : goal.returns-clause-alive
returns-clause-alive c = λ _. all_started (patterns_of c.args.rules.now) c.rules.lists.draft
    c.rules.left (omega arith) c.rules.invariant.started
