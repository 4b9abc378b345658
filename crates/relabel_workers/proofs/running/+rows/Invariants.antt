use Rattle.std.proofs.Common.{◌+◌, ◌*◌, length}
use Rattle.relabel_workers.proofs.running.+rows.Given as goal

abbrev pub decreases-run_both : goal.decreases-run_both
decreases-run_both g l = 3 * length l.passes.queue + 2

abbrev pub decreases-run_both-join+arg3 : goal.decreases-run_both-join+arg3
decreases-run_both-join+arg3 g l = 3 * length l.passes.queue + 1

abbrev pub decreases-run_all : goal.decreases-run_all
decreases-run_all g l = 3 * length l.passes.queue
