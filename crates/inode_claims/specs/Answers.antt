-- What clauses say of claims, passes and winners.
use Rattle.std.specs.Prelude.{◌≡◌, ℕ, ◌<◌, ◌≤◌, ◌==◌, ◌⊎◌, cond, List, length, slice_index, Option}
use Rattle.std.specs.Prelude.{Some, None}
use Rattle.walk_steps.specs.declared.machine.TheConstants.{NONE_WORD}
use Rattle.inode_claims.specs.declared.rule.Call.{Call}
use Rattle.inode_claims.specs.declared.rule.ClaimView.{ClaimView}
use Rattle.inode_claims.specs.declared.claims.Claims.{Claims}
use Rattle.inode_claims.specs.declared.claims.ClaimPass.{ClaimPass}
use Rattle.inode_claims.specs.declared.winners.Winners.{Winners}
use Rattle.inode_claims.specs.Claiming.{calls_where, was_answered, IsClaimed, least_claimed}

-- the pass was made by these claims
abbrev pub IsPassOf : Claims → ClaimPass → Type 0
IsPassOf claims pass = pass.seat.table_id ≡ claims.table.shared.table_id

abbrev pub passes_of_claims : Claims → ℕ
passes_of_claims claims = claims.table.shared.key.passes

abbrev pub groups_of : Claims → ℕ
groups_of claims = claims.table.shared.key.groups

abbrev pub claim_view : ClaimPass → ClaimView
claim_view pass = pass.seat.me.0

abbrev pub group_count : Winners → ℕ
group_count winners = length winners.words.items

abbrev pub claim_word_at : Winners → ℕ → ℕ
claim_word_at winners group = slice_index winners.words.items group

-- the position that won the group, if any
abbrev pub winner_of : Winners → ℕ → Option ℕ
winner_of winners group =
    cond (claim_word_at winners group == NONE_WORD) None (Some (claim_word_at winners group))

-- of any closing pass: each group that it claimed has a winner, which is at most each position that
-- it claimed
pub record Wins (groups : ℕ) (calls : List Call) (winners : Winners) : Type 0 where
  pub sized : group_count winners ≡ groups
  pub low : (group position : ℕ) → group < groups → IsClaimed group position calls
      → claim_word_at winners group ≤ position
  pub won : (group position : ℕ) → group < groups → IsClaimed group position calls
      → claim_word_at winners group < NONE_WORD

-- of a closing pass that stands for all passes, whose calls are thus all calls
pub record AnswersAll (groups : ℕ) (calls : List Call) (winners : Winners) : Type 0 where
  pub least : (group : ℕ) → group < groups → claim_word_at winners group ≡ least_claimed group calls
  pub answered : (group answer : ℕ) → 0 < calls_where (was_answered group answer) calls
      → (answer ≡ NONE_WORD)
      ⊎ IsClaimed group answer calls
  pub first : (group position : ℕ) → group < groups → IsClaimed group position calls
      → calls_where (was_answered group NONE_WORD) calls ≡ 1
