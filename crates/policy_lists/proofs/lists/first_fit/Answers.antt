use Rattle.std.proofs.Common.{arith}
use Rattle.policy_lists.specs.Rows.{rows_at}
use Rattle.policy_lists.proofs.ListLemmas.{passed_all, passing_first, passing_found, passing_on}
use Rattle.policy_lists.proofs.RowLemmas.{number_at}
use Rattle.policy_lists.proofs.lists.first_fit.Goals as goal

pub nodes-init : goal.nodes-init
nodes-init c =
    passing_first c.args.lines.now c.args.asked (rows_at c.args.nodes.now.rows c.args.list.now)

pub does_fit-requires-clause-node : goal.does_fit-requires-clause-node
does_fit-requires-clause-node c =
    number_at c.args.nodes.now.rows c.args.list.now c.nodes.node-index 0 c.nodes-test.true
    c.requires.list

pub line-requires-clause-long : goal.line-requires-clause-long
line-requires-clause-long c =
    (c.requires.nodes.each _ (number_at c.args.nodes.now.rows c.args.list.now c.nodes.node-index 0
    c.nodes-test.true c.requires.list)).long

pub returns-then-does_fit : goal.returns-then-does_fit
returns-then-does_fit c =
    passing_found c.args.lines.now c.args.asked c.args.nodes.now.rows c.args.list.now
    c.nodes.node-index c.nodes-test.true c.nodes.invariant c.does_fit.result c.line.result
    c.does_fit.ensures c.if-does_fit.true c.line.ensures

pub nodes-preserved : goal.nodes-preserved
nodes-preserved c =
    passing_on c.args.lines.now c.args.asked c.args.nodes.now.rows c.args.list.now
    c.nodes.node-index c.nodes-test.true c.nodes.invariant c.does_fit.result c.does_fit.ensures
    c.if-does_fit.false

pub returns : goal.returns
returns c =
    passed_all c.args.lines.now c.args.asked c.args.nodes.now.rows c.args.list.now
    c.nodes.node-index (omega (arith, c.nodes-test.false)) c.nodes.invariant

pub line-requires-clause-within : goal.line-requires-clause-within
line-requires-clause-within c =
    number_at c.args.nodes.now.rows c.args.list.now c.nodes.node-index 0 c.nodes-test.true
    c.requires.list
