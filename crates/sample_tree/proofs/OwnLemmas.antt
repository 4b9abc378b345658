-- A refusal that is handed on raises no count.
use Rattle.std.proofs.Common.{◌≡◌, subst, sym, ℕ}
use Rattle.std.specs.Prelude.{Result, Ok, Err}
use Rattle.std.specs.Result.{IsErrAnd}
use Rattle.run_faults.specs.Causes.{CauseCounts, Counts}
use Rattle.run_faults.specs.declared.cause.Cause.{Cause}

pub handed_on : {V : Type 0} (cause : Cause) (result : Result V Cause)
    → IsErrAnd result (λ given. given ≡ cause) → ((n : ℕ) → CauseCounts n n cause)
    → (n : ℕ) → Counts n n result
handed_on cause (Ok value) is counts n = absurd is
handed_on cause (Err given) is counts n =
    subst (λ (k : Cause). CauseCounts n n k) (sym is) (counts n)
