use Rattle.std.proofs.Common.{◌≡◌}
use Rattle.tree_model.specs.Jobs.{AreJobs, directories_below}
use Rattle.tree_model.proofs.jobs.all_jobs.Given as goal

abbrev pub invariant-entries : goal.invariant-entries
invariant-entries l = record {
  count : l.count ≡ directories_below l.sorted l.e;
  jobs : AreJobs l.sorted l.e l.jobs.items;
}
