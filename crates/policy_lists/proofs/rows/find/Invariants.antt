use Rattle.std.proofs.Common.{◌<◌, length}
use Rattle.policy_lists.proofs.rows.find.Given as goal

abbrev pub invariant-slots : goal.invariant-slots
invariant-slots l = l.slot < length l.slots
