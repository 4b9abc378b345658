-- What clauses say of a queue and its passes.
use Rattle.std.specs.Prelude.{◌≡◌, ℕ, ◌≤◌, [], ◌∷◌, length, Option, Some, None}
use Rattle.crossbeam_queue.specs.Passes.{view, IsPassOf}
use Rattle.walk_steps.specs.declared.machine.WalkState.{WalkState}
use Rattle.walk_steps.specs.declared.shape.Shape.{Shape}
use Rattle.walk_steps.specs.Lists.{times}
use Rattle.dir_queue.specs.declared.rule.QueueView.{QueueView}
use Rattle.dir_queue.specs.declared.queue.QueuePass.{QueuePass}
use Rattle.dir_queue.specs.declared.queue.DirQueue.{DirQueue}
use Rattle.dir_queue.specs.Passes.{with_taken, AllIsTaken}

abbrev pub queue_shape : DirQueue → Shape
queue_shape queue = queue.plan.shape.value

abbrev pub passes_of_queue : DirQueue → ℕ
passes_of_queue queue = queue.plan.passes

abbrev pub queue_view : QueuePass → QueueView
queue_view pass = view pass.pass

-- the pass was made by this queue
pub record IsQueuePassOf (queue : DirQueue) (pass : QueuePass) : Type 0 where
  pub seated : IsPassOf queue.queue pass.pass
  pub parents : (queue_view pass).parents ≡ (queue_shape queue).parents
  pub passes : (queue_view pass).passes ≡ passes_of_queue queue

-- what a pass took: a job of the shape that it had not taken, or nothing
abbrev pub TakesJob : Shape → QueueView → QueueView → Option ℕ → Type 0
TakesJob shape before after None = after ≡ before
TakesJob shape before after (Some job) =
    (after ≡ with_taken before job) × (job ≤ length shape.parents) × (times job before.taken ≡ 0)

-- None exactly where job 0 and every given job are taken
abbrev pub NoneIfAllTaken : QueueView → Option ℕ → Type 0
NoneIfAllTaken before None = AllIsTaken before
NoneIfAllTaken before (Some job) = ¬ AllIsTaken before

-- the empty queue and the lists of a pass, as the state of one worker
abbrev pub one_worker : QueueView → WalkState
one_worker view =
    record { queue = []; taken = view.taken ∷ []; given = view.given ∷ []; words = [] }
