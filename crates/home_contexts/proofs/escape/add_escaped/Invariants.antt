use Rattle.std.proofs.Common.{◌≡◌, ◌++◌, drop}
use Rattle.home_contexts.specs.Escaped.{pattern_escaped}
use Rattle.home_contexts.proofs.escape.add_escaped.Given as goal

abbrev pub invariant-loop-b : goal.invariant-loop-b
invariant-loop-b l = l.to ++ pattern_escaped (drop l.b-index l.text) ≡ l.fn.to ++ pattern_escaped
    l.text
