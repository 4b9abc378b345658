use Rattle.std.proofs.Common.{arith, subst, sym}
use Rattle.policy_lists.specs.Nodes.{IsStepped}
use Rattle.policy_lists.proofs.NodeLemmas.{noted_step, step_recalled}
use Rattle.policy_lists.proofs.nodes.Nodes.step.Goals as goal

pub returns-then-known-gt0-clause-stepped : goal.returns-then-known-gt0-clause-stepped
returns-then-known-gt0-clause-stepped c =
    let self = c.args.self.now in
    subst (λ to. IsStepped c.args.lines.now c.args.byte c.args.from self.rows to self.rows)
    (sym c.decoded.ensures)
    (step_recalled c.args.lines.now self.rows self.next.items self.accepts.items
    self.covers.items self.states.room c.args.from c.args.byte c.index-known.result.now
    c.requires.nodes c.requires.from (omega arith) c.index-known.ensures (omega arith))

pub returns-clause-nodes : goal.returns-clause-nodes
returns-clause-nodes c =
    let new = c.learn.new.self in
    noted_step c.args.lines.now c.args.self.now.rows new.rows new.next.items new.accepts.items
    new.covers.items new.states.room c.args.from c.args.byte c.coded.result c.in_ok-to.to
    c.in_ok-to.ensures.nodes c.requires.from (omega arith) c.coded.ensures
    c.in_ok-to.ensures.stepped
