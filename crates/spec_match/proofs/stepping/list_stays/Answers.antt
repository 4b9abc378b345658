use Rattle.std.proofs.Common.{◌<◌, ◌∙◌, arith, length, map, refl, sym}
use Rattle.spec_match.specs.ListsSeen.{list_seen}
use Rattle.spec_match.specs.StatesFor.{patterns_of, spec_in}
use Rattle.spec_match.proofs.ScratchLemmas.{room_own, states_kept}
use Rattle.spec_match.proofs.SteppingLemmas.{in_rules, listed_stays, rule_kept, rule_settled}
use Rattle.spec_match.proofs.SteppingLemmas.{rule_settles, rule_stays}
use Rattle.spec_match.proofs.stepping.list_stays.Goals as goal

pub member_stays-requires : goal.member_stays-requires
member_stays-requires c =
    let list = list_seen c.args.list.now in
    let i = c.index-i.result in
    let rule = c.index-rules-i.result in
    let within : c.alive.k < length list =
    omega (arith, c.alive-test.true, c.list_len-k-end.ensures) in
    let owns = c.requires.own c.args.list.now.number c.requires.list in record {
      list = c.requires.list;
      within = within;
      room = room_own c.args.rules.now c.alive.states i rule
          (in_rules c.args.rules.now list c.alive.k i rule within owns c.index-i.ensures
          c.index-rules-i.is) c.index-rules-i.is c.alive.invariant.states;
      kept = rule_kept c.args.rules.now list c.alive.k i rule within owns c.index-i.ensures
          c.index-rules-i.is;
    }

pub returns-then-not-member_stays-clause-states : goal.returns-then-not-member_stays-clause-states
returns-then-not-member_stays-clause-states c =
    let list = list_seen c.args.list.now in
    let within : c.alive.k < length list =
    omega (arith, c.alive-test.true, c.list_len-k-end.ensures) in
    let below = in_rules c.args.rules.now list c.alive.k c.index-i.result c.index-rules-i.result
    within (c.requires.own c.args.list.now.number c.requires.list) c.index-i.ensures
    c.index-rules-i.is in
    states_kept (patterns_of c.args.rules.now) c.alive.states c.member_stays.new.states
    c.member_stays.ensures.room c.alive.invariant.states

pub alive-preserved : goal.alive-preserved
alive-preserved c =
    let list = list_seen c.args.list.now in
    let k = c.alive.k in
    let i = c.index-i.result in
    let rule = c.index-rules-i.result in
    let within : k < length list = omega (arith, c.list_len-k-end.ensures) in
    let owns = c.requires.own c.args.list.now.number c.requires.list in record {
      states = states_kept (patterns_of c.args.rules.now) c.alive.states c.member_stays.new.states
          c.member_stays.ensures.room c.alive.invariant.states;
      stay = rule_stays c.args.rules.now list k i rule within owns c.index-i.ensures
          c.index-rules-i.is (c.member_stays.ensures.stays c.if-not-member_stays.false)
          c.alive.invariant.stay;
      settled = rule_settles c.args.rules.now list k i rule within owns c.index-i.ensures
          c.index-rules-i.is (c.member_stays.ensures.exact.0 c.if-not-member_stays.false)
          c.alive.invariant.settled;
    }

pub returns-then-not-member_stays-clause-exact : goal.returns-then-not-member_stays-clause-exact
returns-then-not-member_stays-clause-exact c =
    let list = list_seen c.args.list.now in
    let within : c.alive.k < length list =
    omega (arith, c.alive-test.true, c.list_len-k-end.ensures) in
    let owns = c.requires.own c.args.list.now.number c.requires.list in (
      λ e. cc,
      λ all. sym c.if-not-member_stays.true
          ∙ c.member_stays.ensures.exact.1 (rule_settled c.args.rules.now list c.alive.k
          c.index-i.result c.index-rules-i.result within owns c.index-i.ensures
          c.index-rules-i.is all),
    )

pub returns-clause-exact : goal.returns-clause-exact
returns-clause-exact c = (
  λ _ j l. c.alive.invariant.settled j (omega (arith, l, c.list_len-k-end.ensures)),
  λ _. refl,
)

pub returns-clause-stays : goal.returns-clause-stays
returns-clause-stays c = λ _ cuts.
    listed_stays cuts (patterns_of c.args.rules.now) (map spec_in c.args.rules.now)
    (list_seen c.args.list.now)
    (λ j l. c.alive.invariant.stay j (omega (arith, l, c.list_len-k-end.ensures)))
