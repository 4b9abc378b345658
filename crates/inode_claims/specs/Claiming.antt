-- Calls of `claim`, and what a pass shows of them.
use Rattle.std.specs.Prelude.{ℕ, ◌+◌, ◌-◌, ◌<◌, ◌==◌, ◌&&◌, Bool, cond, List, [], ◌∷◌, ◌++◌, min}
use Rattle.walk_steps.specs.declared.machine.TheConstants.{NONE_WORD}
use Rattle.inode_claims.specs.declared.rule.Call.{Call}
use Rattle.inode_claims.specs.declared.rule.ClaimView.{ClaimView}

abbrev pub call_of : ℕ → ℕ → ℕ → Call
call_of group position answer = record { group = group; position = position; answer = answer }

-- no call yet, standing for n passes
abbrev pub fresh_claims : ℕ → ClaimView
fresh_claims n = record { calls = []; stands_for = n }

-- one call more
abbrev pub with_call : ClaimView → ℕ → ℕ → ℕ → ClaimView
with_call view group position answer =
    record {
      calls = view.calls ++ call_of group position answer ∷ [];
      stands_for = view.stands_for;
    }

-- the calls of both, standing for the passes of both
abbrev pub claims_joined : ClaimView → ClaimView → ClaimView
claims_joined into from =
    record { calls = into.calls ++ from.calls; stands_for = into.stands_for + from.stands_for }

abbrev pub claims_for_one_less : ClaimView → ClaimView
claims_for_one_less view = record { calls = view.calls; stands_for = view.stands_for - 1 }

-- a call on the group that claimed this position
abbrev pub is_call_at : ℕ → ℕ → Call → Bool
is_call_at group position call = (call.group == group) && (call.position == position)

-- a call on the group that was answered this word
abbrev pub was_answered : ℕ → ℕ → Call → Bool
was_answered group answer call = (call.group == group) && (call.answer == answer)

-- how many calls pass the test
abbrev pub calls_where : (Call → Bool) → List Call → ℕ
calls_where test [] = 0
calls_where test (call ∷ calls) = cond (test call) 1 0 + calls_where test calls

-- some call claimed the position for the group
abbrev pub IsClaimed : ℕ → ℕ → List Call → Type 0
IsClaimed group position calls = 0 < calls_where (is_call_at group position) calls

-- the least position that the calls claim for the group, or the none-word where no call is on it
abbrev pub least_claimed : ℕ → List Call → ℕ
least_claimed group [] = NONE_WORD
least_claimed group (call ∷ calls) =
    cond (call.group == group) (min call.position (least_claimed group calls))
    (least_claimed group calls)
