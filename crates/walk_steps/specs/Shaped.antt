-- Jobs and entries of a tree.
use Rattle.std.specs.Prelude.{◌≡◌, ℕ, ◌-◌, ◌<◌, ◌≤◌, length, slice_index}
use Rattle.walk_steps.specs.declared.shape.Shape.{Shape}

-- the last job; job 0 is the root of all
abbrev pub last_job : Shape → ℕ
last_job shape = length shape.parents

abbrev pub entry_count : Shape → ℕ
entry_count shape = length shape.homes

-- the parent of a job from 1 on
abbrev pub parent_job : Shape → ℕ → ℕ
parent_job shape job = slice_index shape.parents (job - 1)

-- the job that holds the entry
abbrev pub home_of : Shape → ℕ → ℕ
home_of shape entry = slice_index shape.homes entry

abbrev pub group_of_entry : Shape → ℕ → ℕ
group_of_entry shape entry = slice_index shape.group_of entry

-- parents stand below their jobs, and each entry has a home and a group
pub record IsValid (shape : Shape) : Type 0 where
  pub paired : length shape.group_of ≡ length shape.homes
  pub parents : (job : ℕ) → 0 < job → job ≤ last_job shape → parent_job shape job < job
  pub homes : (entry : ℕ) → entry < entry_count shape → home_of shape entry ≤ last_job shape
  pub groups : (entry : ℕ) → entry < entry_count shape → group_of_entry shape entry < shape.groups
