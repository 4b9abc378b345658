use Rattle.std.proofs.Common.{rules, sym, subst}
use Rattle.crossbeam_queue.specs.Passes.{view}
use Rattle.dir_queue.specs.Passes.{MayOffer}
use Rattle.dir_queue.proofs.Keeps.{offers, rooms}
use Rattle.dir_queue.proofs.Parents.{pushed_under}
use Rattle.dir_queue.proofs.queue.DirQueue.offer.Goals as goal

pub push_as-requires-clause-rule : goal.push_as-requires-clause-rule
push_as-requires-clause-rule g c = (
  offers _ _ _ _ (search rules) (search rules) (let e = c.job-job.ensures in
      subst (MayOffer (view c.args.pass.now.pass)) (sym e.0) c.requires.may),
  rooms _ _
      (search rules) (search rules),
)

pub invariant_of-pass-clause-under : goal.invariant_of-pass-clause-under
invariant_of-pass-clause-under g c = pushed_under _ _ _ _ _ c.push_as.ensures.rule
    (let e = c.job-job.ensures in subst (MayOffer (view c.args.pass.now.pass)) (sym e.0)
    c.requires.may) c.args.pass.now.under
