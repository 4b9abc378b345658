use Rattle.std.proofs.Common.{arith}
use Rattle.dir_queue.specs.Answers.{queue_view}
use Rattle.inode_claims.specs.Answers.{claim_view}
use Rattle.relabel_core.specs.Walked.{walk_of}
use Rattle.relabel_workers.proofs.EndLemmas.{closed}
use Rattle.relabel_workers.proofs.walk.close.Goals as goal

pub returns-clause-notes : goal.returns-clause-notes
returns-clause-notes c =
    (closed (walk_of c.args.input.now) c.requires.fit.by_path (let few = c.requires.fit.few in
    omega (arith, few)) c.args.shape.now c.requires.shape.0 c.ends_are_one.ensures.end
    (queue_view c.args.share.queue) (claim_view c.args.share.claims) c.args.share.notes
    c.close-winners.result c.requires.done c.requires.sound
    _ c.requires.groups c.close-winners.ensures.wins (c.close-winners.ensures.all c.requires.all)
    c.close-winners.ensures.claims).noted

pub returns-clause-winners : goal.returns-clause-winners
returns-clause-winners c =
    (closed (walk_of c.args.input.now) c.requires.fit.by_path (let few = c.requires.fit.few in
    omega (arith, few)) c.args.shape.now c.requires.shape.0 c.ends_are_one.ensures.end
    (queue_view c.args.share.queue) (claim_view c.args.share.claims) c.args.share.notes
    c.close-winners.result c.requires.done c.requires.sound
    _ c.requires.groups c.close-winners.ensures.wins (c.close-winners.ensures.all c.requires.all)
    c.close-winners.ensures.claims).won

pub returns-clause-claims : goal.returns-clause-claims
returns-clause-claims c =
    (closed (walk_of c.args.input.now) c.requires.fit.by_path (let few = c.requires.fit.few in
    omega (arith, few)) c.args.shape.now c.requires.shape.0 c.ends_are_one.ensures.end
    (queue_view c.args.share.queue) (claim_view c.args.share.claims) c.args.share.notes
    c.close-winners.result c.requires.done c.requires.sound
    _ c.requires.groups c.close-winners.ensures.wins (c.close-winners.ensures.all c.requires.all)
    c.close-winners.ensures.claims).claimed
