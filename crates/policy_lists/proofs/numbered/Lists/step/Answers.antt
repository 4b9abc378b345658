use Rattle.std.proofs.Common.{subst, sym}
use Rattle.policy_lists.specs.Lists.{ListLeadsTo}
use Rattle.policy_lists.specs.Nodes.{AreNodes}
use Rattle.policy_lists.specs.Numbered.{AllNumbers, IsLed, lists_by, lists_in}
use Rattle.policy_lists.specs.Rows.{AreRowNumbers, rows_at}
use Rattle.policy_lists.specs.declared.nodes.Nodes.{Nodes}
use Rattle.policy_lists.proofs.NumberedLemmas.{all_now, led_now, list_within, numbers_at}
use Rattle.policy_lists.proofs.numbered.Lists.step.Goals as goal

pub step_list-requires-clause-from : goal.step_list-requires-clause-from
step_list-requires-clause-from c =
    let self = c.args.self.now in
    subst (AreRowNumbers self.nodes.rows) (sym c.row-from.ensures)
    (numbers_at self.nodes.rows self.rows c.args.list
    (list_within self.nodes.rows self.rows c.args.list c.requires.list) c.requires.lists.each)

pub returns-clause-lists : goal.returns-clause-lists
returns-clause-lists c =
    let self = c.args.self.now in
    let new = c.number_draft.new.self in
    let nodes = c.step_list.new.nodes in record {
      nodes = subst (AreNodes c.args.lines.now) (sym c.number_draft.ensures.nodes)
          c.in_ok-step_list.ensures.nodes;
      each = subst (λ (n : Nodes). AllNumbers n.rows new.rows) (sym c.number_draft.ensures.nodes)
          (all_now self.nodes.rows nodes.rows self.rows new.rows c.step_list.new.list.items
          c.in_ok-number.number c.in_ok-step_list.ensures.more c.requires.lists.each
          c.in_ok-step_list.ensures.within c.in_ok-number.ensures.numbered);
    }

pub returns-clause-led : goal.returns-clause-led
returns-clause-led c =
    let self = c.args.self.now in
    let new = c.number_draft.new.self in
    let nodes = c.step_list.new.nodes in
    let lines = c.args.lines.now in
    let list = rows_at nodes.rows c.step_list.new.list.items in
    let leads = subst (λ row. ListLeadsTo lines c.args.byte (rows_at self.nodes.rows row) list)
    c.row-from.ensures c.in_ok-step_list.ensures.leads in
    subst (λ (n : Nodes). IsLed lines c.args.byte c.args.list c.in_ok-number.number
    (lists_in self) (lists_by n.rows new.rows)) (sym c.number_draft.ensures.nodes)
    (led_now self.nodes.rows nodes.rows self.rows new.rows c.step_list.new.list.items
    c.in_ok-number.number c.in_ok-step_list.ensures.more c.requires.lists.each
    c.in_ok-step_list.ensures.within c.in_ok-number.ensures.numbered lines c.args.byte
    c.args.list (list_within self.nodes.rows self.rows c.args.list c.requires.list) leads)
