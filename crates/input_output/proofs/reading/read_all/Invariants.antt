use Rattle.std.proofs.Common.{◌≡◌, ◌≤◌, ◌<◌, ◌+◌, ◌-◌, length, vec_len}
use Rattle.std.specs.Io.KnownBytes.{Consumes}
use Rattle.input_output.proofs.reading.read_all.Given as goal

-- the bytes so far were taken from the front
abbrev pub invariant-pieces : goal.invariant-pieces
invariant-pieces g l = record {
  taken : Consumes (g.I.Source.left l.fn.source) (g.I.Source.left l.source) l.bytes;
  count : g.I.Source.faults l.source ≡ g.I.Source.faults l.fn.source;
  small : length l.bytes ≤ l.limit + 1;
  room : 0 < vec_len l.buf;
}

abbrev pub decreases-pieces : goal.decreases-pieces
decreases-pieces g l = l.limit + 1 - length l.bytes
