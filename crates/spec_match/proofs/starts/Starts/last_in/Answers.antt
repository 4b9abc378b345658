use Rattle.std.proofs.Common.{◌≡◌, ◌-◌, ◌<◌, ◌∙◌, arith, length, suc, sym}
use Rattle.spec_match.specs.Chains.{fits_from, is_in_bucket}
use Rattle.spec_match.proofs.ChainLemmas.{fits_from_here, head_leads, link_low, next_begun}
use Rattle.spec_match.proofs.ChainLemmas.{next_ended, next_found, next_in, next_on, place_leads}
use Rattle.spec_match.specs.StatesFor.{patterns_of}
use Rattle.spec_match.proofs.ScratchLemmas.{room_own, states_kept}
use Rattle.spec_match.proofs.starts.Starts.last_in.Goals as goal

pub chain-init : goal.chain-init
chain-init c =
    let n = length c.args.rules.now in
    let p = is_in_bucket c.args.rules.now (length c.args.self.now.heads.items)
    c.args.chain.bucket in
    let leads = head_leads c.args.rules.now (length c.args.self.now.heads.items) n
    c.args.chain.bucket
    c.index.result.now c.args.self.now.heads.items c.args.self.now.previous.items
    c.requires.starts c.requires.bucket c.index.ensures in record {
      states = c.requires.states;
      within = omega (arith, leads, link_low n p);
      next = next_begun n p
          (fits_from c.args.chain.at c.args.query.now.asked c.args.query.now.text.now
          c.args.rules.now)
          c.index.result.now leads;
    }

pub does_fit_from-requires : goal.does_fit_from-requires
does_fit_from-requires c =
    room_own c.args.rules.now c.chain.trials.states (c.chain.next - 1) c.index-rules-i.result
    (omega (arith, c.chain-test.true, c.chain.invariant.within)) c.index-rules-i.is
    c.chain.invariant.states

pub returns-then-does_fit_from-clause-states : goal.returns-then-does_fit_from-clause-states
returns-then-does_fit_from-clause-states c =
    states_kept (patterns_of c.args.rules.now) c.chain.trials.states
    c.does_fit_from.new.trials.states
    c.does_fit_from.ensures.room c.chain.invariant.states

pub returns-then-does_fit_from-clause-found : goal.returns-then-does_fit_from-clause-found
returns-then-does_fit_from-clause-found c =
    let i = c.chain.next - 1 in
    let here : suc i ≡ c.chain.next = omega arith in
    let fit = fits_from_here c.args.query.now.asked c.args.query.now.text.now c.args.rules.now
    c.args.chain.at i
    c.index-rules-i.result (omega (arith, c.chain.invariant.within)) c.index-rules-i.is in
    next_found (length c.args.rules.now)
    (is_in_bucket c.args.rules.now (length c.args.self.now.heads.items) c.args.chain.bucket)
    (fits_from c.args.chain.at c.args.query.now.asked c.args.query.now.text.now c.args.rules.now)
    c.chain.next i here
    c.chain.invariant.next
    (fit ∙ sym c.does_fit_from.ensures.value ∙ c.if-does_fit_from.true)

pub chain-smaller : goal.chain-smaller
chain-smaller c =
    let i = c.chain.next - 1 in
    let here : suc i ≡ c.chain.next = omega arith in
    let n = length c.args.rules.now in
    let p = is_in_bucket c.args.rules.now (length c.args.self.now.heads.items)
    c.args.chain.bucket in
    let inside =
    next_in n p (fits_from c.args.chain.at c.args.query.now.asked c.args.query.now.text.now
    c.args.rules.now)
    c.chain.next i here c.chain.invariant.next in
    let leads = place_leads c.args.rules.now (length c.args.self.now.heads.items) n
    c.args.chain.bucket i
    c.index-in-chain.result.now c.args.self.now.heads.items c.args.self.now.previous.items
    c.requires.starts (omega (arith, c.chain.invariant.within)) inside
    c.index-in-chain.ensures in
    omega (arith, leads, link_low i p)

pub chain-preserved : goal.chain-preserved
chain-preserved c =
    let i = c.chain.next - 1 in
    let here : suc i ≡ c.chain.next = omega arith in
    let n = length c.args.rules.now in
    let p = is_in_bucket c.args.rules.now (length c.args.self.now.heads.items)
    c.args.chain.bucket in
    let q = fits_from c.args.chain.at c.args.query.now.asked c.args.query.now.text.now
    c.args.rules.now in
    let rule = c.index-rules-i.result in
    let within : i < n = omega (arith, c.chain.invariant.within) in
    let fit = fits_from_here c.args.query.now.asked c.args.query.now.text.now c.args.rules.now
    c.args.chain.at i rule within
    c.index-rules-i.is in
    let inside = next_in n p q c.chain.next i here c.chain.invariant.next in
    let leads = place_leads c.args.rules.now (length c.args.self.now.heads.items) n
    c.args.chain.bucket i
    c.index-in-chain.result.now c.args.self.now.heads.items c.args.self.now.previous.items
    c.requires.starts within inside c.index-in-chain.ensures in record {
      states = states_kept (patterns_of c.args.rules.now) c.chain.trials.states
          c.does_fit_from.new.trials.states
          c.does_fit_from.ensures.room c.chain.invariant.states;
      within = omega (arith, leads, link_low i p);
      next = next_on n p q c.chain.next i here c.chain.invariant.next c.index-in-chain.result.now
          (fit ∙ sym c.does_fit_from.ensures.value ∙ c.if-does_fit_from.false) leads;
    }

pub returns-clause-found : goal.returns-clause-found
returns-clause-found c =
    let end : c.chain.next ≡ 0 = omega arith in
    next_ended (length c.args.rules.now)
    (is_in_bucket c.args.rules.now (length c.args.self.now.heads.items) c.args.chain.bucket)
    (fits_from c.args.chain.at c.args.query.now.asked c.args.query.now.text.now c.args.rules.now)
    c.chain.next end
    c.chain.invariant.next
