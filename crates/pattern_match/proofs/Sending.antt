-- What is lent to threads may be shared by them.
use denote.Param.Send.{IsSync, sendable}
use Rattle.std.proofs.Crossing.{crosses}
use Rattle.pattern_match.specs.contracts.class.Class as Class
use Rattle.pattern_match.specs.contracts.operation.Operation as Operation
use Rattle.pattern_match.specs.contracts.readying.PatternTables as PatternTables

class_sync : IsSync Class.the_row
class_sync = search (sendable, crosses) depth 40

operation_sync : IsSync Operation.the_row
operation_sync = search (sendable, crosses) depth 40

pub tables_sync : IsSync PatternTables.the_row
tables_sync = search (sendable, crosses, class_sync, operation_sync) depth 40
