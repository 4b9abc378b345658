use Rattle.relabel_core.specs.Answer.{walk_in}
use Rattle.sample_tree.proofs.WalkLemmas.{each_label}
use Rattle.sample_tree.proofs.walks.tree_after.Goals as goal

pub with_labels-requires : goal.with_labels-requires
with_labels-requires c =
    each_label (walk_in c.args.first.now) c.args.tree.now c.in_ok-labels.labels c.requires.walk
    c.in_ok-labels.ensures
