use Rattle.relabel_workers.specs.Held.{HasWorked, IsWorkerFor, common}
use Rattle.relabel_workers.proofs.alone.drain_with.Given as goal

abbrev pub invariant-steps : goal.invariant-steps
invariant-steps g l = record {
  worker : IsWorkerFor l.site.input.now l.worker;
  worked : HasWorked (common l.site) l.fn.share 0 l.share;
}
