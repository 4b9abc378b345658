use Rattle.std.proofs.Common.{drop}
use Rattle.policy_lists.specs.Rows.{rows_at}
use Rattle.policy_lists.proofs.ListLemmas.{IsPassing}
use Rattle.policy_lists.proofs.lists.first_fit.Given as goal

abbrev pub invariant-nodes : goal.invariant-nodes
invariant-nodes l =
    IsPassing l.lines l.asked (rows_at l.nodes.rows l.list)
    (rows_at l.nodes.rows (drop l.node-index l.list))
