use Rattle.std.proofs.Common.{arith}
use Rattle.tree_model.proofs.JobLemmas.{below_few}
use Rattle.tree_model.proofs.jobs.count_with.Goals as goal

pub overflow_add-result : goal.overflow_add-result
overflow_add-result c =
    omega (
      arith,
      c.requires.known,
      c.requires.few,
      c.requires.before,
      below_few c.args.sorted.now
          c.args.e,
    )
