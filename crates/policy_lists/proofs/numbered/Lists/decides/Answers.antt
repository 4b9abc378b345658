use Rattle.std.proofs.Common.{◌∙◌, ap, subst, sym}
use Rattle.policy_lists.specs.Lists.{IsListOf}
use Rattle.policy_lists.specs.Rows.{AreRowNumbers, rows_at}
use Rattle.policy_lists.proofs.NumberedLemmas.{list_is, list_within, numbers_at}
use Rattle.policy_lists.proofs.numbered.Lists.decides.Goals as goal

pub first_fit-requires-clause-list : goal.first_fit-requires-clause-list
first_fit-requires-clause-list c =
    let self = c.args.self.now in
    subst (AreRowNumbers self.nodes.rows) (sym c.row.ensures)
    (numbers_at self.nodes.rows self.rows c.args.list
    (list_within self.nodes.rows self.rows c.args.list c.requires.list) c.requires.lists.each)

pub returns : goal.returns
returns c = λ order text h.
    let self = c.args.self.now in
    c.first_fit.ensures order text
    (subst (IsListOf c.args.lines.now order text)
    (list_is self.nodes.rows self.rows c.args.list
    (list_within self.nodes.rows self.rows c.args.list c.requires.list)
    ∙ ap (rows_at self.nodes.rows) (sym c.row.ensures)) h)
