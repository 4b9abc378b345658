use Rattle.std.proofs.Common.{◌≡◌, ◌-◌, ◌<◌, arith, length, suc}
use Rattle.file_paths.specs.PathRef.{path_of}
use Rattle.spec_match.specs.Chains.{is_in_bucket}
use Rattle.spec_match.proofs.ChainLemmas.{head_leads, link_low, place_leads}
use Rattle.spec_match.proofs.FoundLemmas.{going_begun, going_ended, going_in, going_on}
use Rattle.spec_match.proofs.starts.Starts.add_in.Goals as goal

pub chain-init : goal.chain-init
chain-init c =
    let rules = c.args.sought.now.rules.now in
    let count = length c.args.self.now.heads.items in
    let leads = head_leads rules count (length rules) c.args.chain.bucket c.index.result.now
    c.args.self.now.heads.items c.args.self.now.previous.items c.requires.starts
    c.requires.bucket c.index.ensures in record {
      states = c.requires.states;
      within = omega
          (arith, leads, link_low (length rules) (is_in_bucket rules count c.args.chain.bucket));
      going = going_begun (path_of c.args.sought.now.path) rules count c.args.chain.bucket
          c.args.chain.at
          c.index.result.now c.args.found.now.items leads;
    }

pub chain-smaller : goal.chain-smaller
chain-smaller c =
    let rules = c.args.sought.now.rules.now in
    let count = length c.args.self.now.heads.items in
    let i = c.chain.next - 1 in
    let here : suc i ≡ c.chain.next = omega arith in
    let inside = going_in (path_of c.args.sought.now.path) rules count c.args.chain.bucket
    c.args.chain.at c.chain.next
    i c.args.found.now.items c.chain.found.items here c.chain.invariant.going in
    let leads = place_leads rules count (length rules) c.args.chain.bucket i
    c.index-in-chain.result.now
    c.args.self.now.heads.items c.args.self.now.previous.items c.requires.starts
    (omega (arith, c.chain.invariant.within)) inside c.index-in-chain.ensures in
    omega (arith, leads, link_low i (is_in_bucket rules count c.args.chain.bucket))

pub chain-preserved : goal.chain-preserved
chain-preserved c =
    let path = path_of c.args.sought.now.path in
    let rules = c.args.sought.now.rules.now in
    let count = length c.args.self.now.heads.items in
    let i = c.chain.next - 1 in
    let here : suc i ≡ c.chain.next = omega arith in
    let inside = going_in path rules count c.args.chain.bucket c.args.chain.at c.chain.next i
    c.args.found.now.items c.chain.found.items here c.chain.invariant.going in
    let within : i < length rules = omega (arith, c.chain.invariant.within) in
    let leads = place_leads rules count (length rules) c.args.chain.bucket i
    c.index-in-chain.result.now
    c.args.self.now.heads.items c.args.self.now.previous.items c.requires.starts within inside
    c.index-in-chain.ensures in record {
      states = c.try_from.ensures.states;
      within = omega (arith, leads, link_low i (is_in_bucket rules count c.args.chain.bucket));
      going = going_on path rules count c.args.chain.bucket c.args.chain.at c.chain.next i
          c.index-in-chain.result.now c.args.found.now.items c.chain.found.items
          c.try_from.new.found.items here c.chain.invariant.going c.in_ok-try_from.ensures.added
          leads;
    }

pub returns-clause-added : goal.returns-clause-added
returns-clause-added c =
    going_ended (path_of c.args.sought.now.path) c.args.sought.now.rules.now
    (length c.args.self.now.heads.items)
    c.args.chain.bucket c.args.chain.at c.chain.next c.args.found.now.items c.chain.found.items
    (omega arith) c.chain.invariant.going
