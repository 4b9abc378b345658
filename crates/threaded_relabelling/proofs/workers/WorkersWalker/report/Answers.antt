use Rattle.threaded_relabelling.proofs.workers.WorkersWalker.report.Goals as goal

pub count_for-requires-sync-R : goal.count_for-requires-sync-R
count_for-requires-sync-R g c κs within = c.requires

pub report_by-requires-sync-R : goal.report_by-requires-sync-R
report_by-requires-sync-R g c κs within = c.requires
