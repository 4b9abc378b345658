use Rattle.std.proofs.Common.{◌+◌, ◌-◌, ◌≡◌, ◌<◌, ◌≤◌, length}
use Rattle.find_records.specs.SoFar.{IsSound}
use Rattle.find_records.proofs.Taking.{IsTaken}
use Rattle.find_records.proofs.reading.take_pieces.Given as goal

-- the bytes so far were taken from the front, and what is read of them with the rest is what all
-- mean
abbrev pub invariant-pieces : goal.invariant-pieces
invariant-pieces g l = record {
  taken : IsTaken l.fn.format (g.I.Source.left l.fn.source) (g.I.Source.left l.source)
      l.limits.records l.taken l.so_far;
  count : g.I.Source.faults l.source ≡ g.I.Source.faults l.fn.source;
  sound : IsSound l.so_far;
  most : l.so_far.most ≡ l.limits.records;
  small : l.taken ≤ l.limits.bytes + 1;
  room : 0 < length l.buf;
}

abbrev pub decreases-pieces : goal.decreases-pieces
decreases-pieces g l = l.limits.bytes + 1 - l.taken
