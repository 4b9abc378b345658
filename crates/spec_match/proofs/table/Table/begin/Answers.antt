use Rattle.std.proofs.Common.{◌<◌, ◌∙◌, [], ap, length, map, subst, sym}
use Rattle.spec_match.specs.Alive.{alive_list}
use Rattle.spec_match.specs.StatesFor.{patterns_of, spec_in}
use Rattle.spec_match.specs.Tables.{list_for}
use Rattle.spec_match.specs.Trail.{IsOnWay, list_behind, trace_in}
use Rattle.spec_match.proofs.AliveLemmas.{listed_whole}
use Rattle.spec_match.proofs.TrailLemmas.{begun}
use Rattle.spec_match.proofs.table.Table.begin.Goals as goal

pub returns-clause-way : goal.returns-clause-way
returns-clause-way c =
    let rules = c.args.rules.now in
    let table = c.args.self.now in
    let lists = table.lists.lists in
    let old = trace_in table.trail in
    let new = trace_in c.begin.new.self in
    let n = c.common-at.result in
    let some : 0 < length lists = c.requires.begun in
    let first = listed_whole table.cuts (patterns_of rules) (map spec_in rules) []
    (alive_list lists 0) (c.requires.table.first some) in
    let shown = c.list_behind-list.ensures ∙ ap (λ ns. list_behind ns n) c.as_slice.ensures.value in
    subst (IsOnWay (list_for rules table) lists c.args.text.now new n) (sym shown)
    (begun (list_for rules table) lists c.args.text.now old new n c.common-at.ensures.known
    c.common-at.ensures.lists c.common-at.ensures.text c.common-at.ensures.same some first
    c.begin.ensures.lists c.begin.ensures.known c.begin.ensures.short c.begin.ensures.same
    c.requires.trail)
