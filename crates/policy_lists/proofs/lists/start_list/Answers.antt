use Rattle.std.proofs.Common.{arith, length}
use Rattle.policy_lists.proofs.ListLemmas.{all_begun, begun_first, begun_on, order_within}
use Rattle.policy_lists.proofs.RowLemmas.{more_more, none_more}
use Rattle.policy_lists.proofs.lists.start_list.Goals as goal

pub order-init : goal.order-init
order-init c = record {
  nodes = c.requires.nodes;
  more = none_more c.args.nodes.now.rows;
  begun = begun_first c.args.lines.now c.args.order.now c.args.nodes.now.rows
      c.clear.new.self.items c.clear.ensures.items;
}

pub begin-requires-clause-within : goal.begin-requires-clause-within
begin-requires-clause-within c =
    order_within
    (length c.args.lines.now) c.args.order.now c.order.line-index 0 c.order-test.true
    c.requires.order

pub order-preserved : goal.order-preserved
order-preserved c = record {
  nodes = c.in_ok-node.ensures.nodes;
  more = more_more c.args.nodes.now.rows c.order.nodes.rows c.begin.new.self.rows
      c.order.invariant.more c.in_ok-node.ensures.begun.more;
  begun = begun_on c.args.lines.now c.args.order.now c.order.nodes.rows c.begin.new.self.rows
      c.order.line-index 0 c.in_ok-node.node c.order.list.items c.push.new.self.items
      c.order-test.true c.in_ok-node.ensures.begun c.in_ok-push.ensures.items
      c.order.invariant.begun;
}

pub returns-clause-within : goal.returns-clause-within
returns-clause-within c = c.order.invariant.begun.within

pub returns-clause-list : goal.returns-clause-list
returns-clause-list c =
    all_begun c.args.lines.now c.args.order.now c.order.nodes.rows c.order.line-index
    c.order.list.items (omega (arith, c.order-test.false)) c.order.invariant.begun
