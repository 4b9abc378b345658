use Rattle.std.proofs.Common.{◌<◌, ◌∙◌, ◌∷◌, ◌++◌, [], Some, add-one, ap, arith, get_or, length}
use Rattle.std.proofs.Common.{map, subst, sym}
use Rattle.file_paths.specs.Path.{path_text}
use Rattle.pattern_match.specs.States.{StandsFor}
use Rattle.spec_match.specs.Alive.{no_alive}
use Rattle.spec_match.specs.Remembering.{IsAnswer}
use Rattle.spec_match.specs.StatesFor.{patterns_of, spec_in}
use Rattle.spec_match.proofs.AnswerLemmas.{IsPassed, count_rules, first_found, none_found}
use Rattle.spec_match.proofs.AnswerLemmas.{passed_on}
use Rattle.spec_match.proofs.CarryLemmas.{dead_child}
use Rattle.spec_match.proofs.ScratchLemmas.{room_own, states_kept}
use Rattle.spec_match.proofs.SteppingLemmas.{in_rules, rule_kept}
use Rattle.spec_match.proofs.carrying.first_child_fit.Goals as goal

pub load-requires : goal.load-requires
load-requires c =
    let i = c.index-i.result in
    let rule = c.index-rules-i.result in
    let within : c.alive.k < length c.args.from.now =
    omega (arith, c.alive-test.true, c.len-k-end.ensures) in record {
      within = within;
      room = room_own c.args.rules.now c.alive.trials.states i rule
          (in_rules c.args.rules.now c.args.from.now c.alive.k i rule within c.requires.own
          c.index-i.ensures c.index-rules-i.is) c.index-rules-i.is c.alive.invariant.states;
      kept = rule_kept c.args.rules.now c.args.from.now c.alive.k i rule within c.requires.own
          c.index-i.ensures c.index-rules-i.is;
    }

pub returns-then-does_fit_child-clause-states : goal.returns-then-does_fit_child-clause-states
returns-then-does_fit_child-clause-states c =
    let own = c.requires.own c.alive.k no_alive (omega (arith, c.len-k-end.ensures)) in
    states_kept (patterns_of c.args.rules.now) c.alive.trials.states
    c.does_fit_child.new.trials.states
    (c.does_fit_child.ensures.room ∙ c.load.ensures.room) c.alive.invariant.states

pub returns-then-does_fit_child-clause-answer : goal.returns-then-does_fit_child-clause-answer
returns-then-does_fit_child-clause-answer c = λ path at.
    let rules = c.args.rules.now in
    let list = c.args.from.now in
    let k = c.alive.k in
    let rule = c.index-rules-i.result in
    let text = path_text (path ++ c.args.query.now.name.now ∷ []) in
    let within : k < length list = omega (arith, c.len-k-end.ensures) in
    let own = c.requires.own k no_alive within in
    subst (λ i. IsAnswer c.args.query.now.asked text (map spec_in rules) (Some i))
    (sym c.index-i.ensures)
    (first_found c.args.query.now.asked (path_text path) text
    (dead_child c.args.query.now.asked path c.args.query.now.name.now)
    rules list k rule c.does_fit_child.result within
    (c.index-rules-i.is ∙ ap (λ n. get_or rules n rule) c.index-i.ensures)
    (omega (arith, own.within, count_rules rules))
    (λ s. c.does_fit_child.ensures.value path at.0
    (subst (λ w. StandsFor rule.spec.pattern w (path_text path)) (sym c.load.ensures.value) s))
    c.if-does_fit_child.true (c.alive.invariant.passed path at.0) 0 at.1)

pub alive-preserved : goal.alive-preserved
alive-preserved c =
    let rules = c.args.rules.now in
    let list = c.args.from.now in
    let k = c.alive.k in
    let rule = c.index-rules-i.result in
    let within : k < length list = omega (arith, c.len-k-end.ensures) in
    let own = c.requires.own k no_alive within in record {
      states = states_kept (patterns_of rules) c.alive.trials.states
          c.does_fit_child.new.trials.states
          (c.does_fit_child.ensures.room ∙ c.load.ensures.room) c.alive.invariant.states;
      passed = λ path r.
          subst (IsPassed c.args.query.now.asked (path_text path)
          (path_text (path ++ c.args.query.now.name.now ∷ []))
          rules list) (sym (add-one k))
          (passed_on c.args.query.now.asked (path_text path)
          (path_text (path ++ c.args.query.now.name.now ∷ []))
          (dead_child c.args.query.now.asked path c.args.query.now.name.now) rules list k rule
          c.does_fit_child.result within
          (c.index-rules-i.is ∙ ap (λ n. get_or rules n rule) c.index-i.ensures)
          (omega (arith, own.within, count_rules rules))
          (λ s. c.does_fit_child.ensures.value path r
          (subst (λ w. StandsFor rule.spec.pattern w (path_text path))
          (sym c.load.ensures.value) s)) c.if-does_fit_child.false
          (c.alive.invariant.passed path r));
    }

pub returns-clause-answer : goal.returns-clause-answer
returns-clause-answer c = λ path at.
    none_found c.args.query.now.asked (path_text path)
    (path_text (path ++ c.args.query.now.name.now ∷ []))
    (dead_child c.args.query.now.asked path c.args.query.now.name.now) c.args.rules.now
    c.args.from.now c.alive.k
    (omega (arith, c.len-k-end.ensures)) (c.alive.invariant.passed path at.0) at.1
