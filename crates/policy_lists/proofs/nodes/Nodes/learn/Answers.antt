use Rattle.std.proofs.Common.{refl, subst}
use Rattle.policy_lists.specs.Nodes.{node_of}
use Rattle.policy_lists.specs.Rows.{IsAdded, row_at}
use Rattle.policy_lists.proofs.NodeLemmas.{leads_to, stepped}
use Rattle.policy_lists.proofs.nodes.Nodes.learn.Goals as goal

pub returns-clause-stepped : goal.returns-clause-stepped
returns-clause-stepped c =
    let lines = c.args.lines.now in
    let rows = c.args.self.now.rows in
    let from = row_at rows c.args.from in
    let number = c.line-number.result in
    let known = c.step.new.states.known in
    let node = node_of number known in
    stepped lines c.args.byte c.args.from rows c.number_of.new.self.rows c.in_ok-to.to node
    (subst (λ old. IsAdded old node c.in_ok-to.to c.number_of.new.self.rows) c.load.ensures.rows
    c.in_ok-to.ensures.added)
    (leads_to lines from number c.args.byte c.index-lines-number.result
    c.load.new.self.states.known (c.requires.nodes.each c.args.from c.requires.from)
    c.line-number.ensures c.load.ensures.known c.index-lines-number.is known node
    c.step.ensures.stands refl)
