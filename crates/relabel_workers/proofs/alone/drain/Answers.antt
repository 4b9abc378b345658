use Rattle.inode_claims.specs.Answers.{claim_view}
use Rattle.dir_queue.specs.Answers.{queue_view, queue_shape}
use Rattle.relabel_core.specs.Walked.{walk_of}
use Rattle.relabel_workers.proofs.ShareLemmas.{job_known, taken_done}
use Rattle.relabel_workers.proofs.alone.drain.Goals as goal

pub drain_from-requires-clause-job : goal.drain_from-requires-clause-job
drain_from-requires-clause-job g c =
    job_known c.args.site.now.input.now.tree.now (queue_shape c.args.site.now.queue.now)
    c.in-Some.job
    c.requires.site.shape c.in-Some.ensures.taken.1

pub drain_from-requires-clause-left : goal.drain_from-requires-clause-left
drain_from-requires-clause-left g c =
    taken_done (walk_of c.args.site.now.input.now) c.in-Some.job
    (queue_view c.args.hand.share.queue) (queue_view c.drain.new.pass)
    (claim_view c.args.hand.share.claims) c.args.hand.share.notes
    c.in-Some.ensures.taken.0 c.in-Some.ensures.taken.2 c.requires.ready.ready.done
