use Rattle.std.proofs.Common.{arith, subst}
use Rattle.policy_lists.specs.Nodes.{Accepts}
use Rattle.policy_lists.specs.Rows.{row_at}
use Rattle.policy_lists.proofs.ListLemmas.{accepted, flag_is, not_accepted}
use Rattle.policy_lists.proofs.lists.does_fit.Goals as goal

pub returns-then-not-accepts : goal.returns-then-not-accepts
returns-then-not-accepts c =
    let nodes = c.args.nodes.now in
    let node = row_at nodes.rows c.args.node in
    let flag = c.index-accepts.result.now in
    not_accepted c.args.lines.now c.args.asked node flag
    (subst (Accepts c.args.lines.now node)
    (flag_is nodes.accepts.items c.args.node flag
    (omega (arith, c.requires.node, c.requires.nodes.ends_rows)) c.index-accepts.ensures)
    (c.requires.nodes.accepts c.args.node c.requires.node)) c.if-not-accepts.true

pub returns : goal.returns
returns c =
    let nodes = c.args.nodes.now in
    let node = row_at nodes.rows c.args.node in
    let flag = c.index-accepts.result.now in
    accepted c.args.lines.now c.args.asked node flag c.line-number.result
    c.index-lines-number.result c.applies.result
    (subst (Accepts c.args.lines.now node)
    (flag_is nodes.accepts.items c.args.node flag
    (omega (arith, c.requires.node, c.requires.nodes.ends_rows)) c.index-accepts.ensures)
    (c.requires.nodes.accepts c.args.node c.requires.node)) c.if-not-accepts.false
    c.line-number.ensures (c.requires.nodes.each c.args.node c.requires.node).within
    c.index-lines-number.is c.applies.ensures
