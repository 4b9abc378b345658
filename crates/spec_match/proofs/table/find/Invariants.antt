use Rattle.std.proofs.Common.{◌<◌, length}
use Rattle.spec_match.proofs.table.find.Given as goal

abbrev pub invariant-tries : goal.invariant-tries
invariant-tries l = l.slot < length l.slots
