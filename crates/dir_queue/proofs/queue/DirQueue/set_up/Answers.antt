use Rattle.std.proofs.Common.{sym, subst, ◌<◌}
use Rattle.crossbeam_queue.specs.Fifo.{Pushes, Learns}
use Rattle.crossbeam_queue.specs.Passes.{ruled_capacity}
use Rattle.dir_queue.specs.declared.rule.QueueView.{QueueView}
use Rattle.dir_queue.specs.Rule.{IsJobKept, IsSetUp, NothingWaits}
use Rattle.dir_queue.proofs.Keeps.{starts, start_empty}
use Rattle.dir_queue.proofs.queue.DirQueue.set_up.Goals as goal

pub push_as-requires-clause-rule : goal.push_as-requires-clause-rule
push_as-requires-clause-rule g c =
    let e = c.job-job.ensures in
    let x = c.job-job.result in
    subst (λ (v : QueueView). Pushes IsJobKept (ruled_capacity c.args.self.now.queue) c.args.pass.id
    v x (IsSetUp v x) × Learns IsJobKept c.args.pass.id v (NothingWaits v)) (sym c.requires.1)
    (starts _ _ x e.0 (subst (λ t. 0 < t.passes) (sym e.1) c.requires.2), start_empty _)
