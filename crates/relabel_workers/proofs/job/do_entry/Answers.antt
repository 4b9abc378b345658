use Rattle.inode_claims.specs.Answers.{claim_view}
use Rattle.dir_queue.specs.Answers.{queue_view}
use Rattle.relabel_core.specs.Walked.{walk_of}
use Rattle.relabel_workers.proofs.ShareLemmas.{decided_at, entry_added, skips_at}
use Rattle.relabel_workers.proofs.job.do_entry.Goals as goal

pub give_job-given-requires-clause-skipped : goal.give_job-given-requires-clause-skipped
give_job-given-requires-clause-skipped g c =
    skips_at (walk_of c.args.site.now.input.now) c.in_ok-note.note
    c.args.e c.in_ok-note.ensures.entry c.in_ok-note.ensures.noted

pub claim_entry-requires-clause-decided : goal.claim_entry-requires-clause-decided
claim_entry-requires-clause-decided g c = decided_at (walk_of c.args.site.now.input.now)
    c.in_ok-note.note
    c.args.e c.in_ok-note.ensures.entry c.in_ok-note.ensures.noted

pub returns-clause-done : goal.returns-clause-done
returns-clause-done g c = λ rest d.
    entry_added (walk_of c.args.site.now.input.now) c.args.e rest
    (queue_view c.args.share.now.queue)
    (queue_view c.give_job-given.new.pass) (claim_view c.args.share.now.claims)
    (claim_view c.claim_entry.new.pass) c.args.share.now.notes _ c.in_ok-note.note
    c.give_job-given.ensures.taken c.give_job-given.ensures.given c.claim_entry.ensures.called
    c.in_ok-push.ensures
    c.in_ok-note.ensures.entry c.in_ok-note.ensures.noted d
