use Rattle.std.proofs.Common.{◌≡◌, ◌<◌, ◌-◌, ◌∙◌, ◌++◌, ◌∷◌, [], ap, arith, cond, get_or, length}
use Rattle.std.proofs.Common.{subst, suc, sym}
use Rattle.spec_match.specs.Alive.{alive_at, no_alive}
use Rattle.spec_match.proofs.AnswerLemmas.{count_rules}
use Rattle.spec_match.proofs.RelevantLemmas.{IsTried, all_decided, decided_on, low_at, none_decided}
use Rattle.spec_match.proofs.carrying.relevant_members.Goals as goal

pub alive-init : goal.alive-init
alive-init c = record {
  within = omega (arith, c.len-left.ensures);
  tried = λ path at. none_decided path c.args.rules.now c.args.from.now c.new-found.result.items
      c.len-left.result c.new-found.ensures.items c.len-left.ensures;
}

pub alive-preserved : goal.alive-preserved
alive-preserved c =
    let rules = c.args.rules.now in
    let list = c.args.from.now in
    let k = c.alive.left - 1 in
    let next : suc k ≡ c.alive.left = omega arith in
    let within : k < length list = omega (arith, c.alive.invariant.within) in
    let own = c.requires.own k no_alive within in
    let rule = c.index-rules-i.result in
    let can = c.in_ok-is_found.is_found in
    let below : (alive_at list k).index < length rules =
    omega (arith, own.within, count_rules rules) in record {
      within = omega (arith, c.alive.invariant.within);
      tried = λ path at.
          decided_on path rules list k rule can c.alive.found.items c.add_if.new.found.items within
          (c.index-rules-i.is ∙ ap (λ n. get_or rules n rule) c.index-i.ensures) below
          (c.in_ok-is_found.ensures path at.0)
          (c.in_ok-add_if.ensures
          ∙ ap (λ n. cond can (c.alive.found.items ++ n ∷ []) c.alive.found.items)
          c.index-i.ensures) at.1
          (subst (λ n. IsTried path rules (low_at list n) c.alive.found.items) (sym next)
          (c.alive.invariant.tried path at));
    }

pub returns : goal.returns
returns c = λ path at.
    let zero_left : c.alive.left ≡ 0 = omega arith in
    all_decided path c.args.rules.now c.args.from.now c.alive.found.items at.1
    (subst (λ n. IsTried path c.args.rules.now (low_at c.args.from.now n) c.alive.found.items)
    zero_left (c.alive.invariant.tried path at))
