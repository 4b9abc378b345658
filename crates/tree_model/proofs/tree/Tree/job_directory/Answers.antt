use Rattle.std.proofs.Common.{◌∙◌, ap}
use Rattle.tree_model.specs.Jobs.{job_directory}
use Rattle.tree_model.proofs.JobLaws.{directory_known}
use Rattle.tree_model.proofs.tree.Tree.job_directory.Goals as goal

pub returns-clause-known : goal.returns-clause-known
returns-clause-known c =
    directory_known c.args.self.now c.args.job c.directory_at.result
    (c.directory_at.ensures ∙ ap (λ es. job_directory es c.args.job) c.self.view_is)
