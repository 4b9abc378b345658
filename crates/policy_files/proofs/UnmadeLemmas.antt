-- What is left where nothing is made of what was read.
use Rattle.std.specs.Prelude.{ℕ, Option, Some, None, Result, Ok, Err, IfSome}
use Rattle.std.proofs.Common.{◌≡◌, subst, sym, arith}
use Rattle.std.specs.Result.{IsErrAnd}
use Rattle.input_output.specs.Store.{Files}
use Rattle.run_faults.specs.declared.cause.Cause.{Cause}
use Rattle.run_faults.specs.declared.cause.Cause.TheVariants.{OutOfMemory}
use Rattle.run_input.specs.Files.{FilesSay, Reads}
use Rattle.run_input.proofs.ReadsLemmas.{all_some}

each_some : {A : Type 0} {P Q : A → Type 0} (found : Option A) → ((x : A) → P x → Q x)
    → IfSome found P → IfSome found Q
each_some None each held = held
each_some (Some x) each held = each x held

module _ {S : Type 0} (files : S → Option Files) (calls : S → Option ℕ)
    (read_faults write_faults : S → ℕ) where
  -- what was read is refused
  pub refused_alike : {A : Type 0} (meant : Files → FilesSay A) (store now : S) (cause : Cause)
      (result : Result A Cause) → IsErrAnd result (λ shown. shown ≡ cause)
      → Reads files calls read_faults write_faults meant store now (Err cause)
      → Reads files calls read_faults write_faults meant store now result
  refused_alike meant store now cause (Ok value) is read = absurd is
  refused_alike meant store now cause (Err shown) is read =
      subst (λ (k : Cause). Reads files calls read_faults write_faults meant store now
      (Err k)) (sym is) read

  -- no memory for what is made of it
  pub unmade : {A : Type 0} (meant : Files → FilesSay A) (store now : S) (a : A)
      (result : Result A Cause) → IsErrAnd result (λ shown. shown ≡ OutOfMemory)
      → Reads files calls read_faults write_faults meant store now (Ok a)
      → Reads files calls read_faults write_faults meant store now result
  unmade meant store now a result is read =
      refused_alike meant store now OutOfMemory result is (record {
        same = read.same;
        unwritten = read.unwritten;
        gives = all_some (files store) (λ fs. tt);
        opens = each_some (files store)
            (λ fs made. ((meant fs).opened, omega arith, made)) read.opens;
        counts = read.counts;
        kinds = tt;
      })
