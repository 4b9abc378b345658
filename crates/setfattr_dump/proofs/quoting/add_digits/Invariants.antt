use Rattle.std.proofs.Common.{◌≡◌, ◌++◌, drop}
use Rattle.setfattr_dump.specs.Values.{hex_bytes}
use Rattle.setfattr_dump.proofs.quoting.add_digits.Given as goal

abbrev pub invariant-loop-b : goal.invariant-loop-b
invariant-loop-b l = l.text ++ hex_bytes (drop l.b-index l.bytes) ≡ l.fn.text ++ hex_bytes l.bytes
