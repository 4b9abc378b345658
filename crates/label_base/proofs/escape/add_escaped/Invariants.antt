use Rattle.std.proofs.Common.{◌≡◌, ◌++◌, drop}
use Rattle.label_base.specs.Escape.{escaped}
use Rattle.label_base.proofs.escape.add_escaped.Given as goal

abbrev pub invariant-loop-b : goal.invariant-loop-b
invariant-loop-b l = l.text ++ escaped (drop l.b-index l.bytes) ≡ l.fn.text ++ escaped l.bytes
