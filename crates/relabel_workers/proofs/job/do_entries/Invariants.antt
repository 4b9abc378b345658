use Rattle.std.proofs.Common.{◌≡◌, ◌+◌, length}
use Rattle.std.specs.Prelude.{filter}
use Rattle.dir_queue.specs.Answers.{queue_view}
use Rattle.relabel_core.specs.Walked.{walk_of}
use Rattle.relabel_workers.specs.Held.{AreDone, IsShareOf, IsWorkerFor, StandFor, common}
use Rattle.relabel_workers.specs.Worked.{is_to_be_given, jobs_given}
use Rattle.relabel_workers.proofs.job.do_entries.Given as goal

-- all is done but for the entries that are left
abbrev pub invariant-entries : goal.invariant-entries
invariant-entries g l = record {
  worker : IsWorkerFor l.site.input.now l.worker;
  number : l.worker.number ≡ l.fn.worker.number;
  gives : l.given + length (filter (is_to_be_given (walk_of l.site.input.now)) l.entries)
      ≡ jobs_given (walk_of l.site.input.now) l.job;
  taken : (queue_view l.share.queue).taken ≡ (queue_view l.fn.share.queue).taken;
  share : IsShareOf (common l.site) l.share;
  done : AreDone (walk_of l.site.input.now) l.entries l.share;
  stands : StandFor l.fn.share 0 l.share;
}

abbrev pub decreases-entries : goal.decreases-entries
decreases-entries g l = length l.entries
