use Rattle.std.proofs.Common.{◌≡◌, take}
use Rattle.std.specs.Io.KnownBytes.{Appends}
use Rattle.std.specs.List.{concat}
use Rattle.input_output.proofs.sink.write_text.Given as goal

-- the pieces so far are written
abbrev pub invariant-pieces : goal.invariant-pieces
invariant-pieces g l = record {
  written : Appends (g.O.Sink.written l.fn.out) (g.O.Sink.written l.out)
      (concat (take l.piece-index l.pieces));
  calm : g.O.Sink.faults l.out ≡ g.O.Sink.faults l.fn.out;
}
