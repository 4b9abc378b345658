use Rattle.std.proofs.Common.{◌≡◌, ◌++◌, drop}
use Rattle.setfattr_dump.specs.Values.{quoted_bytes}
use Rattle.setfattr_dump.proofs.quoting.add_escaped.Given as goal

abbrev pub invariant-loop-b : goal.invariant-loop-b
invariant-loop-b l = l.text ++ quoted_bytes (drop l.b-index l.bytes) ≡ l.fn.text ++ quoted_bytes
    l.bytes
