use Rattle.std.proofs.Common.{drop}
use Rattle.policy_lists.specs.Nodes.{AreNodes}
use Rattle.policy_lists.specs.Rows.{AreMore, AreRowNumbers, rows_at}
use Rattle.policy_lists.proofs.ListLemmas.{IsStepping}
use Rattle.policy_lists.proofs.lists.step_list.Given as goal

abbrev pub invariant-nodes : goal.invariant-nodes
invariant-nodes l = record {
  nodes : AreNodes l.lines l.nodes;
  more : AreMore l.fn.nodes.rows l.nodes.rows;
  within : AreRowNumbers l.nodes.rows l.list.items;
  stepping : IsStepping l.lines l.byte (rows_at l.fn.nodes.rows l.from)
      (rows_at l.nodes.rows l.list.items) (rows_at l.fn.nodes.rows (drop l.node-index l.from));
}
