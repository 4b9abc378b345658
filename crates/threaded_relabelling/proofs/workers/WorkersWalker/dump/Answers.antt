use Rattle.threaded_relabelling.proofs.workers.WorkersWalker.dump.Goals as goal

pub count_for-requires-sync-R : goal.count_for-requires-sync-R
count_for-requires-sync-R g c κs within = c.requires

pub dump_by-requires-sync-R : goal.dump_by-requires-sync-R
dump_by-requires-sync-R g c κs within = c.requires
