use Rattle.std.proofs.Common.{◌+◌, map, subst, sym, take}
use Rattle.spec_match.specs.Listed.{IsListed}
use Rattle.spec_match.specs.StatesFor.{patterns_of, spec_in}
use Rattle.spec_match.specs.Tables.{list_for}
use Rattle.spec_match.specs.Trail.{IsOnWay, IsTrail, Trace, trace_in}
use Rattle.spec_match.proofs.TrailLemmas.{trail_grown, trail_of_way, way_more}
use Rattle.spec_match.proofs.table.Table.read_byte.Goals as goal

pub returns-clause-way : goal.returns-clause-way
returns-clause-way c =
    let rules = c.args.rules.now in
    let old = c.args.self.now.lists.lists in
    let new = c.learn.new.self.lists.lists in
    let text = c.args.text.now in
    let at = c.args.from.at in
    let trace = trace_in c.learn.new.self.trail in
    let numbers = c.note.new.lists.items in
    let way = subst (λ (t : Trace). IsOnWay (list_for rules c.args.self.now) old text t at
    c.args.from.list) (sym c.learn.ensures.trail) c.requires.way in
    let more = way_more (list_for rules c.args.self.now) old new text trace numbers at
    c.args.from.list c.in_ok-to.to c.learn.ensures.grown c.requires.inside
    c.in_ok-to.ensures.within
    (c.in_ok-to.ensures.leads (take at text) c.requires.way.read.listed) c.note.ensures way in
    subst (λ cuts. IsOnWay (IsListed cuts (patterns_of rules) (map spec_in rules)) new text
    (record { text = trace.text; lists = numbers; known = trace.known }) (at + 1) c.in_ok-to.to)
    (sym c.learn.ensures.cuts) more

pub returns-clause-trail : goal.returns-clause-trail
returns-clause-trail c =
    trail_of_way (list_for c.args.rules.now c.learn.new.self) c.learn.new.self.lists.lists
    c.args.text.now _ (c.args.from.at + 1) c.in_ok-to.to (returns-clause-way c)

pub returns-in_err-to-clause-trail : goal.returns-in_err-to-clause-trail
returns-in_err-to-clause-trail c =
    let rules = c.args.rules.now in
    let old = c.args.self.now.lists.lists in
    let new = c.learn.new.self.lists.lists in
    let from = c.args.from in
    let known = trail_grown (list_for rules c.args.self.now) old new c.args.text.now
    (trace_in c.args.self.now.trail) from.at from.list c.learn.ensures.grown c.requires.way in
    subst (λ cuts. IsTrail (IsListed cuts (patterns_of rules) (map spec_in rules)) new
    (trace_in c.learn.new.self.trail)) (sym c.learn.ensures.cuts)
    (subst (λ (t : Trace). IsTrail (list_for rules c.args.self.now) new t)
    (sym c.learn.ensures.trail) known)
