-- What reading the input leaves.
use Rattle.std.specs.Prelude.{◌≡◌, List, Option, None, Result, IfSome}
use Rattle.find_records.specs.Record.{Record}
use Rattle.find_records.specs.declared.format.Format.{Format}
use Rattle.run_faults.specs.Causes.{Counts, Gives}
use Rattle.run_faults.specs.declared.cause.Cause.{Cause}
use Rattle.run_input.specs.Records.{entries_for, input_for}
use Rattle.tool_runs.specs.Outside.{InputSeen}

pub record InputRead {I : Type 0} (records : Option Format) (input input_now : InputSeen I)
    (result : Result (List Record) Cause) : Type 0 where
  pub gives : IfSome (input_for records input.left) (λ bytes.
      Gives (entries_for records bytes) result)
  pub untouched : records ≡ None → input_now ≡ input
  pub counts : Counts input.faults input_now.faults result
