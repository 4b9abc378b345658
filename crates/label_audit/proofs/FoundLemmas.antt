-- Files that aren't opened for want of memory.
use Rattle.std.specs.Prelude.{ℕ, Option, Result, Ok, Err}
use Rattle.std.proofs.Common.{◌≡◌, refl, subst, sym, arith}
use Rattle.std.specs.Result.{IsErrAnd}
use Rattle.input_output.specs.Store.{Files}
use Rattle.run_faults.specs.declared.cause.Cause.{Cause}
use Rattle.run_faults.specs.declared.cause.Cause.TheVariants.{OutOfMemory}
use Rattle.run_input.specs.Files.{CallsUpTo, FilesSay, Reads}
use Rattle.run_input.proofs.ReadsLemmas.{all_some, no_calls}

no_more : (old : Option ℕ) (most : ℕ) → CallsUpTo old old most
no_more old most = (0, omega arith, no_calls old)

module _ {S : Type 0} (files : S → Option Files) (calls : S → Option ℕ)
    (read_faults write_faults : S → ℕ) where
  pub unopened : {V : Type 0} (meant : Files → FilesSay V) (store : S) (result : Result V Cause)
      → IsErrAnd result (λ shown. shown ≡ OutOfMemory) → Reads files calls read_faults write_faults
      meant store store result
  unopened meant store (Ok value) is = absurd is
  unopened meant store (Err shown) is =
      let forgotten : Reads files calls read_faults write_faults meant store store
      (Err OutOfMemory) = record {
        same = refl;
        unwritten = refl;
        gives = all_some (files store) (λ fs. tt);
        opens = all_some (files store) (λ fs. no_more (calls store) (meant fs).opened);
        counts = refl;
        kinds = tt;
      } in
      subst (λ (k : Cause). Reads files calls read_faults write_faults meant store store (Err k))
      (sym is) forgotten
