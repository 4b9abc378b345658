-- What a pass shows, and how steps change it.
use Rattle.std.specs.Prelude.{◌≡◌, ℕ, ◌+◌, ◌-◌, ◌<◌, ◌≤◌, true, false, List, [], ◌∷◌, ◌++◌, length}
use Rattle.std.specs.Prelude.{slice_index}
use Rattle.walk_steps.specs.Lists.{hit, times}
use Rattle.dir_queue.specs.declared.rule.QueueView.{QueueView}

-- before job 0 is pushed
abbrev pub not_set_up : QueueView
not_set_up = record {
  is_new = true;
  parents = [];
  passes = 0;
  taken = [];
  given = [];
  stands_for = 0;
}

-- nothing taken or given, standing for n of the passes
abbrev pub fresh_queue : List ℕ → ℕ → ℕ → QueueView
fresh_queue parents passes n =
    record {
      is_new = false;
      parents = parents;
      passes = passes;
      taken = [];
      given = [];
      stands_for = n;
    }

-- a pass that was joined into another
abbrev pub spent : QueueView
spent = fresh_queue [] 0 0

-- the two lists of a view, and what it stands for
abbrev pub with_lists : QueueView → List ℕ → List ℕ → ℕ → QueueView
with_lists view taken given n =
    record {
      is_new = view.is_new;
      parents = view.parents;
      passes = view.passes;
      taken = taken;
      given = given;
      stands_for = n;
    }

abbrev pub with_job_given : QueueView → ℕ → QueueView
with_job_given view job = with_lists view view.taken (view.given ++ job ∷ []) view.stands_for

abbrev pub with_taken : QueueView → ℕ → QueueView
with_taken view job = with_lists view (view.taken ++ job ∷ []) view.given view.stands_for

-- the lists of both, standing for the passes of both
abbrev pub queues_joined : QueueView → QueueView → QueueView
queues_joined into from =
    with_lists into (into.taken ++ from.taken) (into.given ++ from.given)
    (into.stands_for + from.stands_for)

abbrev pub queue_for_one_less : QueueView → QueueView
queue_for_one_less view = with_lists view view.taken view.given (view.stands_for - 1)

abbrev pub for_one : QueueView → QueueView
for_one view = fresh_queue view.parents view.passes 1

-- the parent of a job from 1 on
abbrev pub parent_in : List ℕ → ℕ → ℕ
parent_in parents job = slice_index parents (job - 1)

-- the pass took the parent of each job that it gave
abbrev pub ParentsAreTaken : QueueView → Type 0
ParentsAreTaken view =
    (job : ℕ) → 0 < times job view.given → 0 < times (parent_in view.parents job) view.taken

-- the pass took the job's parent and did not give the job yet
pub record MayOffer (view : QueueView) (job : ℕ) : Type 0 where
  pub positive : 0 < job
  pub within : job ≤ length view.parents
  pub parent : 0 < times (parent_in view.parents job) view.taken
  pub new : times job view.given ≡ 0

-- no job stands twice in the taken list, and none but job 0 and given jobs
pub record HoldsEachOnce (view : QueueView) : Type 0 where
  pub once : (job : ℕ) → times job view.taken ≤ 1
  pub given : (job : ℕ) → 0 < times job view.taken → 0 < hit 0 job + times job view.given

-- job 0 and every given job are taken
abbrev pub AllIsTaken : QueueView → Type 0
AllIsTaken view = (job : ℕ) → 0 < hit 0 job + times job view.given → 0 < times job view.taken
