use Rattle.std.proofs.Common.{◌∷◌, [], ◌<◌, ◌∙◌, ap, arith, length, map, subst}
use Rattle.spec_match.specs.Alive.{alive_at, alive_list}
use Rattle.spec_match.specs.StatesFor.{patterns_of, spec_in}
use Rattle.spec_match.specs.Stepping.{GoesOn, IsEnd}
use Rattle.spec_match.proofs.ScratchLemmas.{room_own, states_kept}
use Rattle.spec_match.proofs.SteppingLemmas.{in_rules, listed_on, listed_to, rule_kept}
use Rattle.spec_match.proofs.SteppingLemmas.{rule_stepped, rule_wants}
use Rattle.spec_match.proofs.stepping.step_all.Goals as goal

pub step_one-requires : goal.step_one-requires
step_one-requires c =
    let list = alive_list c.args.lists.now.lists c.args.step.from in
    let k = c.alive.k in
    let i = c.index-i.result in
    let rule = c.index-rules-i.result in
    let within : k < length list = omega (arith, c.alive-test.true, c.list_len-k-end.ensures) in
    let owns = c.requires.own c.args.step.from c.requires.from in
    let index = c.index-i.ensures ∙ ap (λ ls. (alive_at (alive_list ls c.args.step.from) k).index)
    c.alive.invariant.lists in
    let below = in_rules c.args.rules.now list k i rule within owns index c.index-rules-i.is in
    rw c.alive.invariant.lists (record {
      list = c.requires.from;
      within = within;
      room = room_own c.args.rules.now c.alive.states i rule below c.index-rules-i.is
          c.alive.invariant.states;
      kept = rule_kept c.args.rules.now list k i rule within owns index c.index-rules-i.is;
      wants = rule_wants c.args.rules.now list k i rule within owns index c.index-rules-i.is;
    })

pub alive-preserved : goal.alive-preserved
alive-preserved c =
    let list = alive_list c.args.lists.now.lists c.args.step.from in
    let k = c.alive.k in
    let i = c.index-i.result in
    let rule = c.index-rules-i.result in
    let within : k < length list = omega (arith, c.list_len-k-end.ensures) in
    let owns = c.requires.own c.args.step.from c.requires.from in
    let index = c.index-i.ensures ∙ ap (λ ls. (alive_at (alive_list ls c.args.step.from) k).index)
    c.alive.invariant.lists in
    let goes = subst
    (λ ls. GoesOn rule.spec.pattern (c.args.step.byte ∷ [])
    (alive_at (alive_list ls c.args.step.from) k)
    c.alive.lists.draft c.step_one.new.lists.draft) c.alive.invariant.lists
    c.in-Some.ensures.goes in record {
      states = states_kept (patterns_of c.args.rules.now) c.alive.states c.step_one.new.states
          c.step_one.ensures.room c.alive.invariant.states;
      lists = c.step_one.ensures.lists ∙ c.alive.invariant.lists;
      stepped = rule_stepped c.args.rules.now list k i rule within owns index c.index-rules-i.is
          (c.args.step.byte ∷ []) c.alive.lists.draft c.step_one.new.lists.draft goes
          c.alive.invariant.stepped;
    }

pub returns-in_default-clause-states : goal.returns-in_default-clause-states
returns-in_default-clause-states c =
    let list = alive_list c.args.lists.now.lists c.args.step.from in
    let within : c.alive.k < length list =
    omega (arith, c.alive-test.true, c.list_len-k-end.ensures) in
    let index = c.index-i.ensures
    ∙ ap (λ ls. (alive_at (alive_list ls c.args.step.from) c.alive.k).index)
    c.alive.invariant.lists in
    let below = in_rules c.args.rules.now list c.alive.k c.index-i.result c.index-rules-i.result
    within (c.requires.own c.args.step.from c.requires.from) index c.index-rules-i.is in
    states_kept (patterns_of c.args.rules.now) c.alive.states c.step_one.new.states
    c.step_one.ensures.room c.alive.invariant.states

pub returns-then-ends-clause-states : goal.returns-then-ends-clause-states
returns-then-ends-clause-states c =
    let list = alive_list c.args.lists.now.lists c.args.step.from in
    let within : c.alive.k < length list =
    omega (arith, c.alive-test.true, c.list_len-k-end.ensures) in
    let index = c.index-i.ensures
    ∙ ap (λ ls. (alive_at (alive_list ls c.args.step.from) c.alive.k).index)
    c.alive.invariant.lists in
    let below = in_rules c.args.rules.now list c.alive.k c.index-i.result c.index-rules-i.result
    within (c.requires.own c.args.step.from c.requires.from) index c.index-rules-i.is in
    states_kept (patterns_of c.args.rules.now) c.alive.states c.step_one.new.states
    c.step_one.ensures.room c.alive.invariant.states

pub returns-then-ends-clause-own : goal.returns-then-ends-clause-own
returns-then-ends-clause-own c = λ _.
    let list = alive_list c.args.lists.now.lists c.args.step.from in
    let k = c.alive.k in
    let i = c.index-i.result in
    let rule = c.index-rules-i.result in
    let within : k < length list = omega (arith, c.list_len-k-end.ensures) in
    let index = c.index-i.ensures ∙ ap (λ ls. (alive_at (alive_list ls c.args.step.from) k).index)
    c.alive.invariant.lists in
    let goes = subst
    (λ ls. GoesOn rule.spec.pattern (c.args.step.byte ∷ [])
    (alive_at (alive_list ls c.args.step.from) k)
    c.alive.lists.draft c.step_one.new.lists.draft) c.alive.invariant.lists
    c.in-Some.ensures.goes in
    (rule_stepped c.args.rules.now list k i rule within
    (c.requires.own c.args.step.from c.requires.from)
    index c.index-rules-i.is (c.args.step.byte ∷ []) c.alive.lists.draft c.step_one.new.lists.draft
    goes c.alive.invariant.stepped).own

pub returns-then-ends-clause-leads : goal.returns-then-ends-clause-leads
returns-then-ends-clause-leads c = λ _.
    let list = alive_list c.args.lists.now.lists c.args.step.from in
    let k = c.alive.k in
    let i = c.index-i.result in
    let rule = c.index-rules-i.result in
    let within : k < length list = omega (arith, c.list_len-k-end.ensures) in
    let owns = c.requires.own c.args.step.from c.requires.from in
    let index = c.index-i.ensures ∙ ap (λ ls. (alive_at (alive_list ls c.args.step.from) k).index)
    c.alive.invariant.lists in
    let goes = subst
    (λ ls. GoesOn rule.spec.pattern (c.args.step.byte ∷ [])
    (alive_at (alive_list ls c.args.step.from) k)
    c.alive.lists.draft c.step_one.new.lists.draft) c.alive.invariant.lists
    c.in-Some.ensures.goes in
    let end = subst
    (λ ls. IsEnd c.args.step.cuts rule.spec (c.args.step.byte ∷ [])
    (alive_at (alive_list ls c.args.step.from) k)) c.alive.invariant.lists
    (c.in-Some.ensures.ends c.if-ends.true) in
    listed_to c.args.rules.now list k i rule within owns index c.index-rules-i.is c.args.step.cuts
    (c.args.step.byte ∷ []) c.step_one.new.lists.draft end
    (rule_stepped c.args.rules.now list k i rule within owns index c.index-rules-i.is
    (c.args.step.byte ∷ []) c.alive.lists.draft c.step_one.new.lists.draft goes
    c.alive.invariant.stepped)

pub returns-clause-leads : goal.returns-clause-leads
returns-clause-leads c = λ _.
    listed_on c.args.step.cuts (patterns_of c.args.rules.now) (map spec_in c.args.rules.now)
    c.args.step.byte
    (alive_list c.args.lists.now.lists c.args.step.from) c.alive.lists.draft c.alive.k
    c.requires.some (omega arith) (omega (arith, c.list_len-k-end.ensures))
    c.alive.invariant.stepped
