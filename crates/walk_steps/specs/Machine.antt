-- The machine of steps.
use Rattle.std.specs.Prelude.{◌≡◌, ℕ, suc, ◌==◌, nat_lt, nat_le, ◌&&◌, Bool, true, false, not, cond}
use Rattle.std.specs.Prelude.{List, [], ◌∷◌, ◌++◌, length, replicate, Result, Ok, Err, Option, Some}
use Rattle.std.specs.Prelude.{None}
use Rattle.walk_steps.specs.declared.machine.TheConstants.{NONE_WORD}
use Rattle.walk_steps.specs.declared.machine.WalkState.{WalkState}
use Rattle.walk_steps.specs.declared.machine.RunningState.{RunningState}
use Rattle.walk_steps.specs.declared.shape.Shape.{Shape}
use Rattle.walk_steps.specs.declared.steps.Step.{Step}
use Rattle.walk_steps.specs.declared.steps.Step.TheVariants.{Take, Offer, Claim}
use Rattle.walk_steps.specs.declared.steps.StepsFault.{StepsFault}
use Rattle.walk_steps.specs.declared.steps.StepsFault.TheVariants.{NotAllowed, OutOfMemory}
use Rattle.walk_steps.specs.Shaped.{last_job, entry_count, parent_job, home_of, group_of_entry}
use Rattle.walk_steps.specs.Lists.{is_in, list_of, added_to, lowered}

abbrev pub first_state : Shape → ℕ → WalkState
first_state shape workers =
    record {
      queue = 0 ∷ [];
      taken = replicate workers [];
      given = replicate workers [];
      words = replicate shape.groups NONE_WORD;
    }

abbrev pub is_empty : List ℕ → Bool
is_empty [] = true
is_empty (x ∷ xs) = false

abbrev pub may_take : WalkState → ℕ → Bool
may_take state worker = nat_lt worker (length state.taken) && not (is_empty state.queue)

-- the worker took the job's parent and did not give the job yet
abbrev pub may_offer : Shape → WalkState → ℕ → ℕ → Bool
may_offer shape state worker job =
    (not (job == 0) && nat_le job (last_job shape))
    && (is_in (parent_job shape job) (list_of state.taken worker)
    && not (is_in job (list_of state.given worker)))

-- the worker took the job that holds the entry
abbrev pub may_claim : Shape → WalkState → ℕ → ℕ → Bool
may_claim shape state worker entry =
    nat_lt entry (entry_count shape) && is_in (home_of shape entry) (list_of state.taken worker)

-- whether a worker may do the step in the state
abbrev pub is_allowed : Shape → WalkState → Step → Bool
is_allowed shape state (Take worker) = may_take state worker
is_allowed shape state (Offer worker job) = may_offer shape state worker job
is_allowed shape state (Claim worker entry) = may_claim shape state worker entry

-- the front job of the queue in the worker's taken list
abbrev pub after_take : WalkState → List ℕ → ℕ → WalkState
after_take state [] worker = state
after_take state (job ∷ queue) worker =
    record {
      queue = queue;
      taken = added_to state.taken worker job;
      given = state.given;
      words = state.words;
    }

-- the job at the back of the queue, and in the worker's given list
abbrev pub after_offer : WalkState → ℕ → ℕ → WalkState
after_offer state worker job =
    record {
      queue = state.queue ++ job ∷ [];
      taken = state.taken;
      given = added_to state.given worker job;
      words = state.words;
    }

abbrev pub after_claim : Shape → WalkState → ℕ → WalkState
after_claim shape state entry =
    record {
      queue = state.queue;
      taken = state.taken;
      given = state.given;
      words = lowered state.words (group_of_entry shape entry) entry;
    }

-- the state behind a step that is allowed
abbrev pub step_after : Shape → WalkState → Step → WalkState
step_after shape state (Take worker) = after_take state state.queue worker
step_after shape state (Offer worker job) = after_offer state worker job
step_after shape state (Claim worker entry) = after_claim shape state entry

-- the end of the steps from a state, or the index of the first one that is not allowed
abbrev pub run_from : Shape → WalkState → ℕ → List Step → Result WalkState ℕ
run_from shape state index [] = Ok state
run_from shape state index (step ∷ steps) =
    cond (is_allowed shape state step)
    (run_from shape (step_after shape state step) (suc index) steps)
    (Err index)

abbrev pub steps_from : Shape → ℕ → List Step → Result WalkState ℕ
steps_from shape workers steps = run_from shape (first_state shape workers) 0 steps

-- the step that a fault names
abbrev pub index_of : StepsFault → Option ℕ
index_of (NotAllowed index) = Some index
index_of OutOfMemory = None

-- a fault of one step: it is not allowed, unless memory ran out
abbrev pub Refuses : ℕ → Bool → StepsFault → Type 0
Refuses index allowed (NotAllowed at) = (at ≡ index) × (allowed ≡ false)
Refuses index allowed OutOfMemory = Unit {0}

-- the machine in the code
abbrev pub state_of : RunningState → WalkState
state_of machine =
    record {
      queue = machine.queue.items;
      taken = machine.taken.items;
      given = machine.given.items;
      words = machine.words.items;
    }
