use Rattle.tree_model.proofs.JobLaws.{jobs_are}
use Rattle.tree_model.proofs.laws.jobs_are_directories.Goals as goal

pub returns : goal.returns
returns c = jobs_are
