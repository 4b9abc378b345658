-- What the bytes are at fault for; want of memory is no fault of theirs.
use Rattle.std.specs.Prelude.{Option, Some, None}
use Rattle.find_records.specs.declared.fault.RecordsFault.{RecordsFault}
use Rattle.find_records.specs.declared.fault.RecordsFault.TheVariants.{OutOfMemory}

abbrev pub records_cause : RecordsFault → Option RecordsFault
records_cause OutOfMemory = None
records_cause fault = Some fault
