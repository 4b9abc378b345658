-- Readers that never fail raise no count.
use Rattle.std.proofs.Common.{refl, ℕ, arith}
use Rattle.std.specs.Prelude.{Result, Ok, Err}
use Rattle.run_faults.specs.Causes.{Counts}
use Rattle.run_faults.specs.declared.cause.Cause.{Cause}
use Rattle.run_faults.specs.declared.cause.Cause.TheVariants.{ReadFault}

-- a reader of what never fails raises no count
pub calm_counts : {V : Type 0} (r : Result V Cause) (n : ℕ) → Counts 0 0 r → Counts n n r
calm_counts (Ok v) n h = refl
calm_counts (Err ReadFault) n h = absurd (omega (arith, h.1))
calm_counts (Err cause) n h = refl
