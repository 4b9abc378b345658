-- What holds of every state that steps lead to.
use Rattle.std.specs.Prelude.{◌≡◌, ℕ, ◌+◌, ◌<◌, ◌≤◌, ◌⊎◌, List, [], ◌∷◌, ◌++◌, length, slice_index}
use Rattle.walk_steps.specs.declared.machine.TheConstants.{NONE_WORD}
use Rattle.walk_steps.specs.declared.machine.WalkState.{WalkState}
use Rattle.walk_steps.specs.declared.shape.Shape.{Shape}
use Rattle.walk_steps.specs.declared.steps.Step.{Step}
use Rattle.walk_steps.specs.declared.steps.Step.TheVariants.{Claim}
use Rattle.walk_steps.specs.Shaped.{last_job, parent_job, group_of_entry}
use Rattle.walk_steps.specs.Lists.{list_of, hit, times, times_in_all}

-- The queue and the taken lists hold job 0 and every given job, each once, and nothing else. The
-- parent of a given job is in the taken list of the worker that gave it.
pub record Sound (shape : Shape) (state : WalkState) : Type 0 where
  pub workers : length state.given ≡ length state.taken
  pub placed : (job : ℕ) → times job state.queue + times_in_all job state.taken
      ≡ hit 0 job + times_in_all job state.given
  pub once : (job : ℕ) → times job state.queue + times_in_all job state.taken ≤ 1
  pub inside : (job : ℕ) → 0 < times_in_all job state.given → (0 < job) × (job ≤ last_job shape)
  pub parents : (worker job : ℕ) → 0 < times job (list_of state.given worker)
      → 0 < times (parent_job shape job) (list_of state.taken worker)

-- the word is the least number of which the fact holds, or the none-word
pub record IsLeast (Fact : ℕ → Type 0) (word : ℕ) : Type 0 where
  pub low : (number : ℕ) → Fact number → word ≤ number
  pub met : (word ≡ NONE_WORD) ⊎ Fact word

-- each word is the least of the claimed entries of its group
pub record WordsAreLeast (shape : Shape) (claimed : List ℕ) (words : List ℕ) : Type 0 where
  pub sized : length words ≡ shape.groups
  pub least : (group : ℕ) → group < shape.groups
      → IsLeast (λ entry. (0 < times entry claimed) × (group_of_entry shape entry ≡ group))
      (slice_index words group)

-- the entries that steps claim
abbrev pub claims_of : Step → List ℕ
claims_of (Claim worker entry) = entry ∷ []
claims_of _ = []

abbrev pub claimed_by : List Step → List ℕ
claimed_by [] = []
claimed_by (step ∷ steps) = claims_of step ++ claimed_by steps
