use Rattle.std.proofs.Common.{◌≡◌, length}
use Rattle.std.specs.Io.KnownBytes.{Keeps}
use Rattle.input_output.proofs.source.read_again.Given as goal

abbrev pub invariant-tries : goal.invariant-tries
invariant-tries g l = record {
  long : length l.buf ≡ length l.fn.buf;
  kept : Keeps (g.R.Read.remaining l.fn.inner) (g.R.Read.remaining l.inner);
}
