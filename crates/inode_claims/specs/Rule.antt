-- The rule of the words, which holds between any two steps of any threads.
use Rattle.std.specs.Prelude.{◌≡◌, ℕ, suc, ◌-◌, ◌<◌, ◌≤◌, ◌==◌, ◌⊎◌, Bool, cond, List, [], length}
use Rattle.std.specs.Prelude.{slice_index, sum_by}
use mathlib.Core.Option.{some}
use lib.ListN.{get_elem?}
use Rattle.atomic_table.specs.Table.{Step, Me}
use Rattle.walk_steps.specs.declared.machine.TheConstants.{NONE_WORD}
use Rattle.inode_claims.specs.declared.rule.Call.{Call}
use Rattle.inode_claims.specs.declared.rule.ClaimView.{ClaimView}
use Rattle.inode_claims.specs.declared.rule.ClaimsPlan.{ClaimsPlan}
use Rattle.inode_claims.specs.Claiming.{with_call, calls_where, is_call_at, was_answered, IsClaimed}

-- how many calls of all views pass the test
abbrev pub count_all : (Call → Bool) → List ClaimView → ℕ
count_all test views = sum_by (λ view. calls_where test view.calls) views

-- the word of a group, behind the one that belongs to none
abbrev pub word_of : ℕ → List ℕ → ℕ
word_of group words = slice_index words (suc group)

-- a view that stands for no pass has no call
abbrev pub SpentIsEmpty : List ClaimView → Type 0
SpentIsEmpty views =
    (seat : ℕ) (view : ClaimView) → get_elem? views seat ≡ some view → view.stands_for ≡ 0
    → view.calls ≡ []

pub record LeastIsKept (plan : ClaimsPlan) (words : List ℕ) (views : List ClaimView) : Type 0 where
  pub sized : length words ≡ suc plan.groups
  pub whole : sum_by (λ view. view.stands_for) views ≡ plan.passes
  pub spent : SpentIsEmpty views
  -- each word is at most every position that was claimed for its group
  pub low : (group position : ℕ) → 0 < count_all (is_call_at group position) views
      → word_of group words ≤ position
  -- and is one of them, or nothing lowered it
  pub met : (group : ℕ) → group < plan.groups → (word_of group words ≡ NONE_WORD)
      ⊎ (0 < count_all (is_call_at group (word_of group words)) views)
  -- an answer is the none-word or a position that was claimed
  pub answered : (group answer : ℕ) → 0 < count_all (was_answered group answer) views
      → (answer ≡ NONE_WORD)
      ⊎ (0 < count_all (is_call_at group answer) views)
  -- the none-word is answered once, by the step that lowers it
  pub once : (group : ℕ) → group < plan.groups
      → count_all (was_answered group NONE_WORD) views ≡ cond (word_of group words == NONE_WORD) 0 1

-- what the step of a claim tells its pass: the word that it found, which is at most what the pass
-- had claimed
abbrev pub IsClaimOf : Step ℕ → Me ℕ ClaimView → ℕ → Me ℕ ClaimView → Type 0
IsClaimOf step before found after =
    (after ≡ (with_call before.0 (step.word - 1) step.first found, before.1))
    × ((position : ℕ) → IsClaimed (step.word - 1) position before.0.calls → found ≤ position)
