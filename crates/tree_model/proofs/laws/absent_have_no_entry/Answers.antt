use Rattle.tree_model.proofs.AbsentLaws.{absent_are}
use Rattle.tree_model.proofs.laws.absent_have_no_entry.Goals as goal

pub returns : goal.returns
returns c = absent_are
