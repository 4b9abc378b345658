use Rattle.std.proofs.Common.{◌≡◌, ◌∙◌, ap, arith, sym}
use Rattle.pattern_match.specs.States.{Working}
use Rattle.policy_lists.specs.Nodes.{node_of}
use Rattle.policy_lists.specs.Rows.{IsNumbered}
use Rattle.policy_lists.proofs.NodeLemmas.{accepts_node, completed, covers_node, is_node, row_last}
use Rattle.policy_lists.proofs.nodes.Nodes.number_of.Goals as goal

pub returns-clause-nodes : goal.returns-clause-nodes
returns-clause-nodes c =
    let lines = c.args.lines.now in
    let self = c.args.self.now in
    let i = c.args.line in
    let line = c.index-lines-line.result in
    let states = self.states.known in
    let within = c.requires.within in
    let is = c.index-lines-line.is in
    let same = ap (λ (w : Working). node_of i w.known) c.covers-covers.ensures.same in
    let row = c.as_slice.ensures.value ∙ c.in_ok-row.ensures ∙ same in
    let numbered : IsNumbered self.rows (node_of i states) c.in_ok-number.number
    c.number_of.new.self =
    rw (← row) c.in_ok-number.ensures in
    let last = row_last self.rows c.number_of.new.self (node_of i states) c.in_ok-number.number
    numbered (omega (arith, c.if-number-before.false, c.len-before.ensures)) in
    completed lines self.rows c.complete.new.self.rows self.next.items
    c.complete.new.self.next.items self.accepts.items c.complete.new.self.accepts.items
    self.covers.items c.complete.new.self.covers.items self.states.room
    c.complete.new.self.states.room (node_of i states) c.accepts-accepts.result
    c.covers-covers.result (c.complete.ensures.rows ∙ last) c.in_ok-complete.ensures.next
    c.in_ok-complete.ensures.accepts c.in_ok-complete.ensures.covers
    (ap (λ (w : Working). w.room) (c.complete.ensures.states ∙ c.covers-covers.ensures.same))
    c.requires.nodes (is_node lines i line states within is c.requires.own)
    (accepts_node lines i line states within is c.accepts-accepts.result c.accepts-accepts.ensures)
    (covers_node lines i line states within is c.covers-covers.result c.covers-covers.ensures.any
    c.covers-covers.ensures.holds)
