use Rattle.std.proofs.Common.{◌∙◌, subst}
use Rattle.dir_queue.specs.Answers.{one_worker, queue_view}
use Rattle.walk_steps.specs.Sound.{Sound}
use Rattle.relabel_workers.specs.Held.{common_of}
use Rattle.relabel_workers.proofs.RowLemmas.{rows_made}
use Rattle.relabel_workers.proofs.walk.close_all.Goals as goal

pub take_all_jobs-requires-clause-site : goal.take_all_jobs-requires-clause-site
take_all_jobs-requires-clause-site g c κs within = record {
  fit = c.requires.fit;
  shape = c.in_ok-queue.ensures.shape ∙ c.requires.shape.0;
  groups = c.in_ok-claims.ensures.groups ∙ c.groups.ensures;
}

pub take_all_jobs-requires-clause-rows : goal.take_all_jobs-requires-clause-rows
take_all_jobs-requires-clause-rows g c κs within =
    rows_made (common_of c.args.input.now c.in_ok-queue.queue c.in_ok-claims.claims)
    c.args.shape.now c.args.workers
    c.in_ok-queue.queue_passes c.in_ok-claims.claim_passes c.in_ok-queue.ensures.shape
    c.in_ok-queue.ensures.passes.0 c.in_ok-queue.ensures.passes.1 c.in_ok-claims.ensures.passes.1
    c.in_ok-queue.ensures.each c.in_ok-claims.ensures.each

pub close-requires-clause-sound : goal.close-requires-clause-sound
close-requires-clause-sound g c =
    subst (λ s. Sound s (one_worker (queue_view c.in_ok-share.share.queue)))
    c.in_ok-queue.ensures.shape c.in_ok-share.ensures.sound
