use Rattle.std.proofs.Common.{◌∙◌, ap, length}
use Rattle.tree_model.proofs.NumberingLemmas.{inodes_counted}
use Rattle.tree_model.proofs.firsts.Inodes.len.Goals as goal

pub returns : goal.returns
returns c = c.len.ensures ∙ inodes_counted c.self.inside.sorted.now ∙ ap length c.self.view_is
