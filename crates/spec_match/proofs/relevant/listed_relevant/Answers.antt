use Rattle.std.proofs.Common.{◌≡◌, ◌<◌, ◌-◌, ◌∙◌, ◌++◌, ◌∷◌, [], ap, arith, cond, get_or, length}
use Rattle.std.proofs.Common.{subst, suc, sym}
use Rattle.spec_match.specs.Alive.{alive_at, no_alive}
use Rattle.spec_match.specs.ListsSeen.{list_seen}
use Rattle.spec_match.proofs.AnswerLemmas.{count_rules}
use Rattle.spec_match.proofs.RelevantLemmas.{IsTried, all_decided, decided_on, low_at, none_decided}
use Rattle.spec_match.specs.StatesFor.{patterns_of}
use Rattle.spec_match.proofs.ScratchLemmas.{states_kept}
use Rattle.spec_match.proofs.relevant.listed_relevant.Goals as goal

pub alive-init : goal.alive-init
alive-init c = record {
  states = c.requires.states;
  within = omega (arith, c.list_len-left.ensures);
  tried = λ path r h. none_decided path c.args.rules.now
      (list_seen c.args.list.now) c.new-found.result.items
      c.list_len-left.result c.new-found.ensures.items c.list_len-left.ensures;
}

pub alive-preserved : goal.alive-preserved
alive-preserved c =
    let rules = c.args.rules.now in
    let list = list_seen c.args.list.now in
    let k = c.alive.left - 1 in
    let next : suc k ≡ c.alive.left = omega arith in
    let within : k < length list = omega (arith, c.alive.invariant.within) in
    let own = c.requires.own c.args.list.now.number c.requires.list k no_alive within in
    let rule = c.index-rules-i.result in
    let below : (alive_at list k).index < length rules =
    omega (arith, own.within, count_rules rules) in record {
      states = states_kept (patterns_of rules) c.alive.states c.can_decide-is_found.new.states
          c.can_decide-is_found.ensures.room c.alive.invariant.states;
      within = omega (arith, c.alive.invariant.within);
      tried = λ path r h.
          decided_on path rules list k rule c.can_decide-is_found.result c.alive.found.items
          c.add_if.new.found.items within
          (c.index-rules-i.is ∙ ap (λ n. get_or rules n rule) c.index-i.ensures) below
          (c.can_decide-is_found.ensures.value path r)
          (c.in_ok-add_if.ensures
          ∙ ap (λ n. cond c.can_decide-is_found.result (c.alive.found.items ++ n ∷ [])
          c.alive.found.items) c.index-i.ensures) h
          (subst (λ n. IsTried path rules (low_at list n) c.alive.found.items) (sym next)
          (c.alive.invariant.tried path r h));
    }

pub returns-in_err-add_if-clause-states : goal.returns-in_err-add_if-clause-states
returns-in_err-add_if-clause-states c =
    let rules = c.args.rules.now in
    let k = c.alive.left - 1 in
    let own = c.requires.own c.args.list.now.number c.requires.list k no_alive
    (omega (arith, c.alive.invariant.within)) in
    states_kept (patterns_of rules) c.alive.states c.can_decide-is_found.new.states
    c.can_decide-is_found.ensures.room c.alive.invariant.states

pub returns-clause-value : goal.returns-clause-value
returns-clause-value c = λ path r h.
    let zero_left : c.alive.left ≡ 0 = omega arith in
    all_decided path c.args.rules.now (list_seen c.args.list.now)
    c.alive.found.items h
    (subst (λ n. IsTried path c.args.rules.now
    (low_at (list_seen c.args.list.now) n) c.alive.found.items) zero_left
    (c.alive.invariant.tried path r h))
