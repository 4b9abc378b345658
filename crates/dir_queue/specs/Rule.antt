-- The rule of the queue, which holds between any two steps of any threads.
use Rattle.std.specs.Prelude.{◌≡◌, ℕ, ◌+◌, ◌<◌, ◌≤◌, ◌⊎◌, false, List, [], ◌∷◌, length, sum_by}
use mathlib.Core.Option.{some}
use lib.ListN.{get_elem?}
use Rattle.walk_steps.specs.Lists.{hit, times}
use Rattle.dir_queue.specs.declared.rule.Job.{Job}
use Rattle.dir_queue.specs.declared.rule.QueueView.{QueueView}
use Rattle.dir_queue.specs.Passes.{not_set_up, fresh_queue, with_job_given, with_taken, parent_in}
use Rattle.dir_queue.specs.Passes.{MayOffer, HoldsEachOnce}

-- how often the job waits
abbrev pub waiting : ℕ → List Job → ℕ
waiting job [] = 0
waiting job (first ∷ items) = hit first.number job + waiting job items

-- how often the job was taken, and given, by all passes
abbrev pub all_taken : ℕ → List QueueView → ℕ
all_taken job views = sum_by (λ view. times job view.taken) views

abbrev pub all_given : ℕ → List QueueView → ℕ
all_given job views = sum_by (λ view. times job view.given) views

-- of one view: a pass that stands for none has nothing, any other knows the plan, and each took the
-- parents of the jobs that it gave
pub record FitsQueue (parents : List ℕ) (passes : ℕ) (view : QueueView) : Type 0 where
  pub begun : view.is_new ≡ false
  pub empty : view.stands_for ≡ 0 → (view.taken ≡ []) × (view.given ≡ [])
  pub plan : 0 < view.stands_for → (view.parents ≡ parents) × (view.passes ≡ passes)
  pub under : (job : ℕ) → 0 < times job view.given → 0 < times (parent_in parents job) view.taken

-- the queue and the taken lists hold job 0 and every given job, each once, and nothing else
pub record NothingLost (parents : List ℕ) (passes : ℕ) (items : List Job) (views : List QueueView) :
    Type 0 where
  pub whole : sum_by (λ view. view.stands_for) views ≡ passes
  pub fits : (seat : ℕ) (view : QueueView) → get_elem? views seat ≡ some view
      → FitsQueue parents passes view
  pub placed : (job : ℕ) → waiting job items + all_taken job views ≡ hit 0 job + all_given job views
  pub once : (job : ℕ) → hit 0 job + all_given job views ≤ 1
  pub inside : (job : ℕ) → 0 < all_given job views → job ≤ length parents

abbrev pub IsJobKept : List Job → List QueueView → Type 0
IsJobKept items views =
    ((items ≡ []) × (views ≡ not_set_up ∷ []))
    ⊎ ((parents : List ℕ) × (passes : ℕ) × NothingLost parents passes items views)

-- what the push of job 0 tells
abbrev pub IsSetUp : QueueView → Job → QueueView → Type 0
IsSetUp before job after =
    after ≡ fresh_queue job.plan.value.shape.value.parents job.plan.value.passes
    job.plan.value.passes

abbrev pub NothingWaits : QueueView → List Job → Type 0
NothingWaits view items = items ≡ []

-- what an offer tells, and why there is room for it
abbrev pub IsOfferOf : QueueView → Job → QueueView → Type 0
IsOfferOf before job after = after ≡ with_job_given before job.number

abbrev pub HasQueueRoom : QueueView → List Job → Type 0
HasQueueRoom view items = (job : ℕ) → MayOffer view job → length items ≤ length view.parents

-- what a take tells
pub record IsTakeOf (before : QueueView) (job : Job) (after : QueueView) : Type 0 where
  pub taken : after ≡ with_taken before job.number
  pub within : job.number ≤ length before.parents
  pub new : times job.number before.taken ≡ 0
  pub each : before.stands_for ≡ before.passes → HoldsEachOnce after

-- what the rule says of the queue and the lists of a pass that stands for all
pub record Accounted (view : QueueView) (items : List Job) : Type 0 where
  pub placed : (job : ℕ) → waiting job items + times job view.taken
      ≡ hit 0 job + times job view.given
  pub once : (job : ℕ) → hit 0 job + times job view.given ≤ 1
  pub inside : (job : ℕ) → 0 < times job view.given → job ≤ length view.parents
  pub under : (job : ℕ) → 0 < times job view.given
      → 0 < times (parent_in view.parents job) view.taken

abbrev pub Accounts : QueueView → List Job → Type 0
Accounts view items = view.stands_for ≡ view.passes → Accounted view items
