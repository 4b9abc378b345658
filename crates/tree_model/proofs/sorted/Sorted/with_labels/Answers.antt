use Rattle.std.proofs.Common.{◌≡◌, ◌∙◌, ap, sym, subst, length}
use Rattle.tree_model.specs.Tree.{IsTree}
use Rattle.tree_model.proofs.LabelledLemmas.{with_tree}
use Rattle.tree_model.proofs.sorted.Sorted.with_labels.Goals as goal

pub invariant_of-result : goal.invariant_of-result
invariant_of-result c =
    let s = c.self.inside in
    let counted : length c.args.numbers.now ≡ length s.records = c.requires.counted
    ∙ ap length (sym c.self.view_is) in
    subst IsTree (sym c.in_ok-records.ensures)
    (with_tree c.args.labels.now c.args.numbers.now s.records counted c.self.invariant)
