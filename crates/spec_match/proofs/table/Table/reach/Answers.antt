use Rattle.std.proofs.Common.{◌∙◌, arith, map, subst}
use Rattle.spec_match.specs.Alive.{alive_list}
use Rattle.spec_match.specs.Listed.{IsListed}
use Rattle.spec_match.specs.StatesFor.{patterns_of, spec_in}
use Rattle.spec_match.specs.Tables.{kept_in, list_for}
use Rattle.spec_match.specs.Trail.{trace_in}
use Rattle.spec_match.proofs.TableLemmas.{stays_shown}
use Rattle.spec_match.proofs.TrailLemmas.{listed_to_end, stays_behind, trail_of_way}
use Rattle.spec_match.proofs.table.Table.reach.Goals as goal

pub text-init : goal.text-init
text-init c = record {
  states = c.prepare.ensures.states;
  table = c.begin-way.ensures.table;
  cuts = c.begin-way.ensures.cuts ∙ c.prepare.ensures.cuts;
  draft = c.begin-way.ensures.draft ∙ c.prepare.ensures.draft;
  begun = c.begin-way.ensures.begun;
  way = c.begin-way.ensures.way;
}

pub returns-then-way-text : goal.returns-then-way-text
returns-then-way-text c =
    let table = c.follow-way.new.self in
    let read = c.follow-way.ensures.way.read in
    let cuts = c.follow-way.ensures.cuts ∙ c.text.invariant.cuts in
    record {
      states = c.text.invariant.states;
      table = c.follow-way.ensures.table;
      cuts = cuts;
      draft = c.follow-way.ensures.draft ∙ c.text.invariant.draft;
      trail = trail_of_way (list_for c.args.rules.now table) table.lists.lists c.args.text.now
          (trace_in table.trail) c.follow-way.result.at c.follow-way.result.list
          c.follow-way.ensures.way;
      within = read.within;
      alive = subst (λ b. IsListed b (patterns_of c.args.rules.now) (map spec_in c.args.rules.now)
          c.args.text.now (alive_list table.lists.lists c.follow-way.result.list)) cuts
          (listed_to_end (list_for c.args.rules.now table) c.args.text.now c.follow-way.result.at
          (alive_list table.lists.lists c.follow-way.result.list) (omega arith) read.listed);
    }

pub returns-then-not-has_no_zero : goal.returns-then-not-has_no_zero
returns-then-not-has_no_zero c =
    let table = c.follow-way.new.self in
    record {
      states = c.text.invariant.states;
      table = c.follow-way.ensures.table;
      cuts = c.follow-way.ensures.cuts ∙ c.text.invariant.cuts;
      draft = c.follow-way.ensures.draft ∙ c.text.invariant.draft;
      trail = trail_of_way (list_for c.args.rules.now table) table.lists.lists c.args.text.now
          (trace_in table.trail) c.follow-way.result.at c.follow-way.result.list
          c.follow-way.ensures.way;
      within = tt;
      alive = tt;
    }

pub returns-then-index : goal.returns-then-index
returns-then-index c =
    let ps = patterns_of c.args.rules.now in
    let specs = map spec_in c.args.rules.now in
    let text = c.args.text.now in
    let table = c.follow-way.new.self in
    let number = c.follow-way.result.list in
    let list = alive_list table.lists.lists number in
    let read = c.follow-way.ensures.way.read in
    let cuts = c.follow-way.ensures.cuts ∙ c.text.invariant.cuts in
    let stays = stays_shown ps specs (kept_in table) number c.index.result.now
    c.follow-way.ensures.table read.within c.index.ensures c.if-index.true in
    record {
      states = c.text.invariant.states;
      table = c.follow-way.ensures.table;
      cuts = cuts;
      draft = c.follow-way.ensures.draft ∙ c.text.invariant.draft;
      trail = trail_of_way (list_for c.args.rules.now table) table.lists.lists text
          (trace_in table.trail) c.follow-way.result.at number c.follow-way.ensures.way;
      within = read.within;
      alive = subst (λ b. IsListed b ps specs text list) cuts
          (stays_behind (list_for c.args.rules.now table) text c.follow-way.result.at list stays
          read.inside (c.has_no_zero.ensures.from c.if-not-has_no_zero.false) read.listed);
    }

pub read_byte-requires : goal.read_byte-requires
read_byte-requires c = record {
  states = c.text.invariant.states;
  table = c.follow-way.ensures.table;
  draft = c.follow-way.ensures.draft ∙ c.text.invariant.draft;
  begun = c.follow-way.ensures.begun;
  inside = omega (arith, c.follow-way.ensures.way.read.inside);
  way = c.follow-way.ensures.way;
}

pub returns-in_default : goal.returns-in_default
returns-in_default c = record {
  states = c.read_byte.ensures.states;
  table = c.read_byte.ensures.table;
  cuts = c.read_byte.ensures.cuts ∙ c.follow-way.ensures.cuts ∙ c.text.invariant.cuts;
  draft = c.read_byte.ensures.draft;
  trail = c.read_byte.ensures.trail;
  within = tt;
  alive = tt;
}

pub text-preserved : goal.text-preserved
text-preserved c = record {
  states = c.read_byte.ensures.states;
  table = c.read_byte.ensures.table;
  cuts = c.read_byte.ensures.cuts ∙ c.follow-way.ensures.cuts ∙ c.text.invariant.cuts;
  draft = c.read_byte.ensures.draft;
  begun = c.read_byte.ensures.begun;
  way = c.in-Some.ensures.way;
}

pub returns : goal.returns
returns c =
    let table = c.text.self in
    let read = c.text.invariant.way.read in
    let list = alive_list table.lists.lists c.text.way.list in
    record {
      states = c.text.invariant.states;
      table = c.text.invariant.table;
      cuts = c.text.invariant.cuts;
      draft = c.text.invariant.draft;
      trail = trail_of_way (list_for c.args.rules.now table) table.lists.lists c.args.text.now
          (trace_in table.trail) c.text.way.at c.text.way.list c.text.invariant.way;
      within = read.within;
      alive = subst (λ b. IsListed b (patterns_of c.args.rules.now) (map spec_in c.args.rules.now)
          c.args.text.now list) c.text.invariant.cuts
          (listed_to_end (list_for c.args.rules.now table) c.args.text.now c.text.way.at list
          (omega (arith, c.text-test.false)) read.listed);
    }
