use Rattle.inode_claims.specs.Answers.{claim_view}
use Rattle.dir_queue.specs.Answers.{queue_view}
use Rattle.relabel_core.specs.Walked.{walk_of}
use Rattle.relabel_workers.proofs.ShareLemmas.{joined_done}
use Rattle.relabel_workers.proofs.share.join_shares.Goals as goal

pub returns-clause-ready : goal.returns-clause-ready
returns-clause-ready g c = record {
  own = record { queue_pass = c.join.ensures.pass; claim_pass = c.join-2.ensures.pass };
  done = joined_done (walk_of c.args.site.now.input.now) (queue_view c.args.into.queue)
      (queue_view c.args.from.queue) (queue_view c.join.new.into) (claim_view c.args.into.claims)
      (claim_view c.args.from.claims) (claim_view c.join-2.new.into) c.args.into.notes
      c.args.from.notes c.in_ok-with.field-0 c.join.ensures.view c.join-2.ensures.view
      c.in_ok-with.ensures c.requires.into.done c.requires.from.done;
}
