use Rattle.std.proofs.Common.{◌<◌, ◌∙◌, ap, add-one, arith, get_or, length, map, subst, sym, Some}
use Rattle.spec_match.specs.Alive.{no_alive}
use Rattle.spec_match.specs.ListsSeen.{list_seen}
use Rattle.spec_match.specs.Remembering.{IsAnswer}
use Rattle.spec_match.specs.StatesFor.{patterns_of, spec_in}
use Rattle.spec_match.proofs.ScratchLemmas.{room_own, states_kept}
use Rattle.spec_match.proofs.SteppingLemmas.{in_rules, rule_kept}
use Rattle.spec_match.proofs.AnswerLemmas.{IsPassed, count_rules, dead_fits, first_found}
use Rattle.spec_match.proofs.AnswerLemmas.{none_listed, passed_on}
use Rattle.spec_match.proofs.answering.first_fit.Goals as goal

pub does_fit-requires : goal.does_fit-requires
does_fit-requires c =
    let list = list_seen c.args.list.now in
    let i = c.index-i.result in
    let rule = c.index-rules-i.result in
    let within : c.alive.k < length list =
    omega (arith, c.alive-test.true, c.list_len-k-end.ensures) in
    let owns = c.requires.own c.args.list.now.number c.requires.list in record {
      list = c.requires.list;
      within = within;
      room = room_own c.args.rules.now c.alive.states i rule
          (in_rules c.args.rules.now list c.alive.k i rule within owns c.index-i.ensures
          c.index-rules-i.is) c.index-rules-i.is c.alive.invariant.states;
      kept = rule_kept c.args.rules.now list c.alive.k i rule within owns c.index-i.ensures
          c.index-rules-i.is;
    }

pub returns-then-does_fit-clause-states : goal.returns-then-does_fit-clause-states
returns-then-does_fit-clause-states c =
    let own = c.requires.own c.args.list.now.number c.requires.list c.alive.k no_alive
    (omega arith) in
    states_kept (patterns_of c.args.rules.now) c.alive.states c.does_fit.new.states
    c.does_fit.ensures.room c.alive.invariant.states

pub returns-then-does_fit-clause-answer : goal.returns-then-does_fit-clause-answer
returns-then-does_fit-clause-answer c = λ cuts text h.
    let list = list_seen c.args.list.now in
    let rule = c.index-rules-i.result in
    let own = c.requires.own c.args.list.now.number c.requires.list c.alive.k no_alive
    (omega arith) in
    subst (λ i. IsAnswer c.args.asked text (map spec_in c.args.rules.now) (Some i))
    (sym c.index-i.ensures)
    (first_found c.args.asked text text (dead_fits c.args.asked text) c.args.rules.now list
    c.alive.k rule c.does_fit.result (omega arith)
    (c.index-rules-i.is ∙ ap (λ n. get_or c.args.rules.now n rule) c.index-i.ensures)
    (omega (arith, own.within, count_rules c.args.rules.now))
    (c.does_fit.ensures.value text) c.if-does_fit.true (c.alive.invariant.passed text) h.floor
    h.alive)

pub alive-preserved : goal.alive-preserved
alive-preserved c =
    let list = list_seen c.args.list.now in
    let rule = c.index-rules-i.result in
    let own = c.requires.own c.args.list.now.number c.requires.list c.alive.k no_alive
    (omega arith) in
    record {
      states = states_kept (patterns_of c.args.rules.now) c.alive.states c.does_fit.new.states
          c.does_fit.ensures.room c.alive.invariant.states;
      passed = λ text.
          subst (IsPassed c.args.asked text text c.args.rules.now list) (sym (add-one c.alive.k))
          (passed_on c.args.asked text text (dead_fits c.args.asked text) c.args.rules.now list
          c.alive.k rule c.does_fit.result (omega arith)
          (c.index-rules-i.is ∙ ap (λ n. get_or c.args.rules.now n rule) c.index-i.ensures)
          (omega (arith, own.within, count_rules c.args.rules.now))
          (c.does_fit.ensures.value text) c.if-does_fit.false (c.alive.invariant.passed text));
    }

pub returns-clause-answer : goal.returns-clause-answer
returns-clause-answer c = λ cuts text h.
    none_listed c.args.asked cuts text c.args.rules.now
    (list_seen c.args.list.now) c.alive.k (omega arith)
    (c.alive.invariant.passed text) h
