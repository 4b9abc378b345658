use Rattle.std.proofs.Common.{◌+◌, ◌-◌, ◌*◌}
use Rattle.threaded_texts.proofs.adding.+stretches.Given as goal

abbrev pub decreases-add_parted : goal.decreases-add_parted
decreases-add_parted g l = 3 * l.part.workers - 1

abbrev pub decreases-add_parted-join+arg3 : goal.decreases-add_parted-join+arg3
decreases-add_parted-join+arg3 g l = 3 * l.others + 1

abbrev pub decreases-add_stretches : goal.decreases-add_stretches
decreases-add_stretches g l = 3 * l.part.workers
