-- The passes of as many workers as are to walk.
use Rattle.std.proofs.Common.{◌≡◌, ◌∙◌, sym, ap, subst, ℕ, List, length}
use Rattle.std.specs.Prelude.{All}
use Rattle.walk_steps.specs.declared.shape.Shape.{Shape}
use Rattle.inode_claims.specs.declared.claims.ClaimPass.{ClaimPass}
use Rattle.inode_claims.specs.Claiming as claiming
use Rattle.inode_claims.specs.Answers.{IsPassOf, claim_view}
use Rattle.dir_queue.specs.declared.queue.QueuePass.{QueuePass}
use Rattle.dir_queue.specs.Passes.{fresh_queue}
use Rattle.dir_queue.specs.Answers.{IsQueuePassOf, passes_of_queue, queue_view, queue_shape}
use Rattle.relabel_workers.specs.Held.{AreFreshPasses, Common}

pub rows_made : (s : Common) (shape : Shape) (n : ℕ) (qs : List QueuePass) (cs : List ClaimPass)
    → queue_shape s.queue ≡ shape → passes_of_queue s.queue ≡ n
    → length qs ≡ n → length cs ≡ n
    → All (λ p. IsQueuePassOf s.queue p × (queue_view p ≡ fresh_queue shape.parents n 1)) qs
    → All (λ p. IsPassOf s.claims p × (claim_view p ≡ claiming.fresh_claims 1)) cs
    → AreFreshPasses s qs cs
rows_made s shape n qs cs is passes l m q c = record {
  paired = l ∙ sym m;
  queues = subst
      (λ ps. All (λ p. IsQueuePassOf s.queue p
      × (queue_view p ≡ fresh_queue ps (passes_of_queue s.queue) 1)) qs)
      (ap (λ (x : Shape). x.parents) (sym is))
      (subst (λ k. All (λ p. IsQueuePassOf s.queue p
      × (queue_view p ≡ fresh_queue shape.parents k 1))
      qs) (sym passes) q);
  claimers = c;
}
