-- Where workers end that open what they find open and claim what they find wanted.
use Rattle.std.specs.Prelude.{◌≡◌, ◌↔◌, ℕ, ◌<◌, ◌≤◌, Bool, true, List, [], slice_index}
use Rattle.walk_steps.specs.declared.machine.WalkState.{WalkState}
use Rattle.walk_steps.specs.declared.shape.Shape.{Shape}
use Rattle.walk_steps.specs.Shaped.{last_job, entry_count, parent_job, home_of, group_of_entry}
use Rattle.walk_steps.specs.Lists.{times, times_in_all}
use Rattle.walk_steps.specs.Sound.{IsLeast}

-- some worker took the job
abbrev pub IsJobTaken : WalkState → ℕ → Type 0
IsJobTaken state job = 0 < times_in_all job state.taken

-- some worker gave the job
abbrev pub IsGiven : WalkState → ℕ → Type 0
IsGiven state job = 0 < times_in_all job state.given

-- which jobs are to be taken and which entries to be claimed: what leads there is open
pub record LeadsToJob (shape : Shape) (open_job wanted : ℕ → Bool) : Type 0 where
  pub root : open_job 0 ≡ true
  pub parents : (job : ℕ) → 0 < job → job ≤ last_job shape → open_job job ≡ true
      → open_job (parent_job shape job) ≡ true
  pub homes : (entry : ℕ) → entry < entry_count shape → wanted entry ≡ true
      → open_job (home_of shape entry) ≡ true

-- nothing is left to do: no job waits, and each worker did for the jobs that it took what was to be
-- done, and no more
pub record HasEnded (shape : Shape) (open_job wanted : ℕ → Bool) (claimed : List ℕ)
    (state : WalkState) : Type 0 where
  pub drained : state.queue ≡ []
  pub only_open : (job : ℕ) → IsGiven state job → open_job job ≡ true
  pub only_wanted : (entry : ℕ) → 0 < times entry claimed
      → (entry < entry_count shape) × (wanted entry ≡ true)
  pub children : (job : ℕ) → 0 < job → job ≤ last_job shape → open_job job ≡ true
      → IsJobTaken state (parent_job shape job) → IsGiven state job
  pub entries : (entry : ℕ) → entry < entry_count shape → wanted entry ≡ true
      → IsJobTaken state (home_of shape entry) → 0 < times entry claimed

-- the one end: the taken jobs are the open ones, and each word is the least wanted entry of its
-- group
pub record IsTheEnd (shape : Shape) (open_job wanted : ℕ → Bool) (state : WalkState) : Type 0 where
  pub taken : (job : ℕ) → IsJobTaken state job ↔ ((job ≤ last_job shape) × (open_job job ≡ true))
  pub words : (group : ℕ) → group < shape.groups
      → IsLeast (λ entry. (entry < entry_count shape) × (wanted entry ≡ true)
      × (group_of_entry shape entry ≡ group)) (slice_index state.words group)
