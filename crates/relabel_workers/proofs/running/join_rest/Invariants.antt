use Rattle.std.proofs.Common.{◌≡◌, ◌+◌, length}
use Rattle.relabel_workers.specs.Held.{AreFreshPasses, IsReady, claims_stand, common, queue_stands}
use Rattle.relabel_workers.proofs.running.join_rest.Given as goal

-- the passes that are left stand for what is missing
abbrev pub invariant-rows : goal.invariant-rows
invariant-rows g l = record {
  rows : AreFreshPasses (common l.site) l.passes.queue l.passes.claims;
  ready : IsReady (common l.site) l.share;
  queue_left : queue_stands l.share + length l.passes.queue ≡ queue_stands l.fn.share + length
      l.fn.passes.queue;
  claims_left : claims_stand l.share + length l.passes.queue ≡ claims_stand l.fn.share + length
      l.fn.passes.queue;
}

abbrev pub decreases-rows : goal.decreases-rows
decreases-rows g l = length l.passes.queue
