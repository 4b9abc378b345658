use Rattle.sample_tree.proofs.OwnLemmas.{handed_on}
use Rattle.sample_tree.proofs.tool.answer_for.Goals as goal

pub returns-in_err-tree-clause-counts : goal.returns-in_err-tree-clause-counts
returns-in_err-tree-clause-counts c =
    handed_on _ _ c.from_residual.ensures.1 c.in_err-tree.ensures.counts
