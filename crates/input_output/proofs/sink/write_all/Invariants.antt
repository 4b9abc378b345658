use Rattle.std.proofs.Common.{◌≡◌, ◌≤◌, ◌-◌, length, take}
use Rattle.std.specs.Io.KnownBytes.{Appends}
use Rattle.input_output.proofs.sink.write_all.Given as goal

abbrev pub invariant-loop-done : goal.invariant-loop-done
invariant-loop-done g l = record {
  written : Appends (g.O.Sink.written l.fn.out) (g.O.Sink.written l.out) (take l.done l.bytes);
  calm : g.O.Sink.faults l.out ≡ g.O.Sink.faults l.fn.out;
  within : l.done ≤ length l.bytes;
}

abbrev pub decreases-loop-done : goal.decreases-loop-done
decreases-loop-done g l = length l.bytes - l.done
