-- What is lent to threads may be shared by them.
use denote.Param.Send.{IsSync, sendable}
use Rattle.std.proofs.Crossing.{crosses}
use Rattle.pattern_syntax.specs.contracts.node.Node as Node
use Rattle.pattern_syntax.specs.contracts.pattern.Pattern as Pattern

pub node_sync : IsSync Node.the_row
node_sync = search (sendable, crosses) depth 40

pub pattern_sync : IsSync Pattern.the_row
pattern_sync = search (sendable, crosses) depth 40
