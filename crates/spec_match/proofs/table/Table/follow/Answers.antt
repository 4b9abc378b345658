use Rattle.std.proofs.Common.{map, sym}
use Rattle.spec_match.specs.StatesFor.{patterns_of, spec_in}
use Rattle.spec_match.specs.Tables.{list_for}
use Rattle.spec_match.specs.Trail.{trace_in}
use Rattle.spec_match.proofs.TrailLemmas.{numbers_within, way_followed}
use Rattle.spec_match.proofs.table.Table.follow.Goals as goal

pub follow-reached-requires-clause-numbers : goal.follow-reached-requires-clause-numbers
follow-reached-requires-clause-numbers c =
    let lists = c.args.self.now.lists.lists in
    rw (c.as_slice.ensures.value, c.len-count.ensures)
    (numbers_within (list_for c.args.rules.now c.args.self.now) lists c.args.self.now.next.items
    c.requires.table.steps c.requires.begun)

pub returns-clause-way : goal.returns-clause-way
returns-clause-way c =
    let rules = c.args.rules.now in
    let table = c.args.self.now in
    let lists = table.lists.lists in
    let read = c.follow-reached.ensures.read table.cuts (patterns_of rules) (map spec_in rules)
    lists (sym c.len-count.ensures) (rw c.as_slice.ensures.value c.requires.table.steps)
    c.requires.way.read in
    way_followed (list_for rules table) lists c.args.text.now (trace_in table.trail)
    (trace_in c.reach.new.self) c.args.from.at c.follow-reached.result.at c.args.from.list
    c.follow-reached.result.list
    c.follow-reached.ensures.low c.reach.ensures.text c.reach.ensures.known c.requires.way
    (rw c.reach.ensures.lists read)
