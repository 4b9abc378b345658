use Rattle.std.proofs.Common.{subst, sym, inr}
use Rattle.run_faults.specs.Faults.{fault_line}
use Rattle.run_endings.specs.Endings.{LineOrFront}
use Rattle.run_faults.specs.declared.cause.Cause.{Cause}
use Rattle.run_endings.proofs.refusing.refuse.Goals as goal

pub returns-in-OutOfMemory-clause-line : goal.returns-in-OutOfMemory-clause-line
returns-in-OutOfMemory-clause-line g c =
    subst (λ (k : Cause). LineOrFront g.O.Sink.written g.O.Sink.faults c.args.out.now
    c.give_up.new.out (fault_line c.args.files.now k)) (sym c.give_up.ensures.cause)
    (c.give_up.ensures.line c.args.files.now)

pub returns-in-Err : goal.returns-in-Err
returns-in-Err g c =
    record {
      cause = inr c.give_up-in-Err.ensures.cause;
      line = subst (λ (k : Cause). LineOrFront g.O.Sink.written g.O.Sink.faults c.args.out.now
          c.give_up-in-Err.new.out (fault_line c.args.files.now k))
          (sym c.give_up-in-Err.ensures.cause) (c.give_up-in-Err.ensures.line c.args.files.now);
    }
