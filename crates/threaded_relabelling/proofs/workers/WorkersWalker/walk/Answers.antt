use Rattle.threaded_relabelling.proofs.workers.WorkersWalker.walk.Goals as goal

pub count_for-workers-requires-sync-R : goal.count_for-workers-requires-sync-R
count_for-workers-requires-sync-R g c κs within = c.requires.ready

pub walk_shared-requires-sync-R : goal.walk_shared-requires-sync-R
walk_shared-requires-sync-R g c κs within = c.requires.ready
