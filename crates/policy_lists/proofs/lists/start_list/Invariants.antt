use Rattle.policy_lists.specs.Nodes.{AreNodes}
use Rattle.policy_lists.specs.Rows.{AreMore}
use Rattle.policy_lists.proofs.ListLemmas.{HasBegun}
use Rattle.policy_lists.proofs.lists.start_list.Given as goal

abbrev pub invariant-order : goal.invariant-order
invariant-order l = record {
  nodes : AreNodes l.lines l.nodes;
  more : AreMore l.fn.nodes.rows l.nodes.rows;
  begun : HasBegun l.lines l.order l.nodes.rows l.line-index l.list.items;
}
