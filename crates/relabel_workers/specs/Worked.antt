-- What workers have done, over the jobs that they took.
use Rattle.std.specs.Prelude.{◌≡◌, ℕ, ◌+◌, ◌<◌, ◌≤◌, ◌⊎◌, ◌++◌, ◌∷◌, [], Bool, true, false, ◌&&◌}
use Rattle.std.specs.Prelude.{not}
use Rattle.std.specs.Prelude.{List, All, filter, length, map}
use Rattle.walk_steps.specs.Lists.{times}
use Rattle.inode_claims.specs.declared.rule.Call.{Call}
use Rattle.inode_claims.specs.Claiming.{IsClaimed, call_of}
use Rattle.tree_model.specs.Extents.{is_directory}
use Rattle.tree_model.specs.Groups.{group_of}
use Rattle.tree_model.specs.Jobs.{entries_of_job, entry_home, job_of}
use Rattle.relabel_core.specs.Walk.{Walk, walk_count, skippable}
use Rattle.relabel_workers.specs.Alone.{IsNoteOf, gives_alone, noted_in}
use Rattle.relabel_workers.specs.declared.note.Note.{Note}

-- the entry is a directory with a job of its own to be given
abbrev pub is_to_be_given : Walk → ℕ → Bool
is_to_be_given w e = is_directory w.entries e && not (skippable w e)

-- how many jobs the entries of a job give
abbrev pub jobs_given : Walk → ℕ → ℕ
jobs_given w job = length (filter (is_to_be_given w) (entries_of_job w.entries job))

-- the positions that were claimed, in the order of the calls
abbrev pub positions_claimed : List Call → List ℕ
positions_claimed calls = map (λ call. call.position) calls

-- what was to be done for the entry is done: its job is given, it is claimed, and it is noted
pub record IsHandled (w : Walk) (given : List ℕ) (calls : List Call) (noted : List ℕ) (e : ℕ)
    : Type 0 where
  pub offered : is_to_be_given w e ≡ true → 0 < times (job_of w.entries e) given
  pub claimed : gives_alone w e ≡ true → IsClaimed (group_of w.entries e) e calls
  pub is_noted : 0 < times e noted

-- the job is that of a directory which was to be given, whose home was taken and which isn't left
pub record IsOffered (w : Walk) (left taken : List ℕ) (job : ℕ) : Type 0 where
  pub directory : ℕ
  pub known : directory < walk_count w
  pub own : job_of w.entries directory ≡ job
  pub to_give : is_to_be_given w directory ≡ true
  pub gone : times directory left ≡ 0
  pub home : 0 < times (entry_home w.entries directory) taken

-- the position is that of an entry of the group which gives a context by itself, and whose home was
-- taken
pub record IsRightCall (w : Walk) (taken : List ℕ) (group position : ℕ) : Type 0 where
  pub known : position < walk_count w
  pub gives : gives_alone w position ≡ true
  pub own : group_of w.entries position ≡ group
  pub home : 0 < times (entry_home w.entries position) taken

-- Of the entries of the taken jobs all but those that are left are handled, and nothing else is
-- given, claimed or noted. Each that gives a context is claimed as often as its home was taken.
pub record IsDone (w : Walk) (left taken given : List ℕ) (calls : List Call) (notes : List Note)
    : Type 0 where
  pub once : (e : ℕ) → times e left ≤ 1
  pub held : (e : ℕ) → 0 < times e left
      → (e < walk_count w) × (0 < times (entry_home w.entries e) taken)
  pub given_are : (job : ℕ) → 0 < times job given → IsOffered w left taken job
  pub calls_are : (group position : ℕ) → IsClaimed group position calls
      → IsRightCall w taken group position
  pub claimed_each : (e : ℕ) → e < walk_count w → gives_alone w e ≡ true
      → times e (positions_claimed calls) + times e left ≡ times (entry_home w.entries e) taken
  pub each : (e : ℕ) → e < walk_count w → 0 < times (entry_home w.entries e) taken
      → (0 < times e left) ⊎ IsHandled w given calls (noted_in notes) e
  pub notes_are : All (IsNoteOf w) notes
  pub noted_are : (e : ℕ) → 0 < times e (noted_in notes)
      → (e < walk_count w) × (0 < times (entry_home w.entries e) taken)

-- ---- what one entry adds

abbrev pub given_with : Bool → List ℕ → ℕ → List ℕ
given_with true given job = given ++ job ∷ []
given_with false given job = given

-- one call more where the flag is set
abbrev pub AddsCall : Bool → ℕ → ℕ → (old new : List Call) → Type 0
AddsCall true group position old new =
    (answer : ℕ) × (new ≡ old ++ call_of group position answer ∷ [])
AddsCall false group position old new = new ≡ old
