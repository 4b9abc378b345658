use Rattle.std.proofs.Common.{arith, subst, sym}
use Rattle.policy_lists.specs.Rows.{AreRowNumbers, rows_at}
use Rattle.policy_lists.proofs.ListLemmas.{IsStepping, all_gone, one_on, stepping_first}
use Rattle.policy_lists.proofs.RowLemmas.{more_more, none_more, number_at, numbers_kept}
use Rattle.policy_lists.proofs.lists.step_list.Goals as goal

pub nodes-init : goal.nodes-init
nodes-init c =
    let rows = c.args.nodes.now.rows in
    let list = rows_at rows c.args.from.now in record {
      nodes = c.requires.nodes;
      more = none_more rows;
      within = subst (AreRowNumbers rows) (sym c.clear.ensures.items) tt;
      stepping = subst
          (λ items. IsStepping c.args.lines.now c.args.byte list (rows_at rows items) list)
          (sym c.clear.ensures.items)
          (stepping_first c.args.lines.now c.args.byte list c.requires.some (omega arith));
    }

pub step_one-requires-clause-nodes : goal.step_one-requires-clause-nodes
step_one-requires-clause-nodes c = c.nodes.invariant.nodes

pub step_one-requires-clause-from : goal.step_one-requires-clause-from
step_one-requires-clause-from c =
    number_at c.nodes.nodes.rows c.args.from.now c.nodes.node-index 0 c.nodes-test.true
    (numbers_kept c.args.nodes.now.rows c.nodes.nodes.rows c.args.from.now
    c.nodes.invariant.more c.requires.from)

pub returns-then-ends-clause-more : goal.returns-then-ends-clause-more
returns-then-ends-clause-more c =
    more_more c.args.nodes.now.rows c.nodes.nodes.rows c.step_one.new.nodes.rows
    c.nodes.invariant.more c.in_ok-ends.ensures.more

pub returns-then-ends-clause-within : goal.returns-then-ends-clause-within
returns-then-ends-clause-within c =
    (one_on c.args.lines.now c.args.byte c.args.nodes.now.rows c.nodes.nodes.rows
    c.step_one.new.nodes.rows c.args.from.now c.nodes.node-index c.nodes-test.true c.requires.from
    c.nodes.invariant.more c.in_ok-ends.ensures.more c.nodes.list.items c.step_one.new.list.items
    c.in_ok-ends.ends c.nodes.invariant.within c.in_ok-ends.ensures.stepped
    c.nodes.invariant.stepping).within

pub returns-then-ends-clause-leads : goal.returns-then-ends-clause-leads
returns-then-ends-clause-leads c =
    (one_on c.args.lines.now c.args.byte c.args.nodes.now.rows c.nodes.nodes.rows
    c.step_one.new.nodes.rows c.args.from.now c.nodes.node-index c.nodes-test.true c.requires.from
    c.nodes.invariant.more c.in_ok-ends.ensures.more c.nodes.list.items c.step_one.new.list.items
    c.in_ok-ends.ends c.nodes.invariant.within c.in_ok-ends.ensures.stepped
    c.nodes.invariant.stepping).ended c.if-ends.true

pub nodes-preserved : goal.nodes-preserved
nodes-preserved c =
    let on = one_on c.args.lines.now c.args.byte c.args.nodes.now.rows c.nodes.nodes.rows
    c.step_one.new.nodes.rows c.args.from.now c.nodes.node-index c.nodes-test.true c.requires.from
    c.nodes.invariant.more c.in_ok-ends.ensures.more c.nodes.list.items c.step_one.new.list.items
    c.in_ok-ends.ends c.nodes.invariant.within c.in_ok-ends.ensures.stepped
    c.nodes.invariant.stepping in record {
      nodes = c.in_ok-ends.ensures.nodes;
      more = more_more c.args.nodes.now.rows c.nodes.nodes.rows c.step_one.new.nodes.rows
          c.nodes.invariant.more c.in_ok-ends.ensures.more;
      within = on.within;
      stepping = on.stepping;
    }

pub returns-clause-nodes : goal.returns-clause-nodes
returns-clause-nodes c = c.nodes.invariant.nodes

pub returns-clause-more : goal.returns-clause-more
returns-clause-more c = c.nodes.invariant.more

pub returns-clause-within : goal.returns-clause-within
returns-clause-within c = c.nodes.invariant.within

pub returns-clause-leads : goal.returns-clause-leads
returns-clause-leads c =
    all_gone c.args.lines.now c.args.byte c.args.nodes.now.rows c.nodes.nodes.rows
    c.args.from.now c.nodes.node-index c.nodes.list.items (omega (arith, c.nodes-test.false))
    c.nodes.invariant.stepping
