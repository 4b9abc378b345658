use Rattle.std.proofs.Common.{subst, sym}
use Rattle.policy_lists.specs.Nodes.{AreNodes}
use Rattle.policy_lists.specs.Numbered.{AllNumbers, IsStarted, lists_by, lists_in}
use Rattle.policy_lists.specs.declared.nodes.Nodes.{Nodes}
use Rattle.policy_lists.proofs.NumberedLemmas.{all_now, started_now}
use Rattle.policy_lists.proofs.numbered.Lists.start.Goals as goal

pub returns-clause-lists : goal.returns-clause-lists
returns-clause-lists c =
    let self = c.args.self.now in
    let new = c.number_draft.new.self in
    let nodes = c.start_list.new.nodes in record {
      nodes = subst (AreNodes c.args.lines.now) (sym c.number_draft.ensures.nodes)
          c.in_ok-start_list.ensures.nodes;
      each = subst (λ (n : Nodes). AllNumbers n.rows new.rows) (sym c.number_draft.ensures.nodes)
          (all_now self.nodes.rows nodes.rows self.rows new.rows c.start_list.new.list.items
          c.in_ok-number.number c.in_ok-start_list.ensures.more c.requires.lists.each
          c.in_ok-start_list.ensures.within c.in_ok-number.ensures.numbered);
    }

pub returns-clause-started : goal.returns-clause-started
returns-clause-started c =
    let self = c.args.self.now in
    let new = c.number_draft.new.self in
    let nodes = c.start_list.new.nodes in
    subst (λ (n : Nodes). IsStarted c.args.lines.now c.args.order.now c.in_ok-number.number
    (lists_in self) (lists_by n.rows new.rows)) (sym c.number_draft.ensures.nodes)
    (started_now self.nodes.rows nodes.rows self.rows new.rows c.start_list.new.list.items
    c.in_ok-number.number c.in_ok-start_list.ensures.more c.requires.lists.each
    c.in_ok-start_list.ensures.within c.in_ok-number.ensures.numbered c.args.lines.now
    c.args.order.now c.in_ok-start_list.ensures.list)
