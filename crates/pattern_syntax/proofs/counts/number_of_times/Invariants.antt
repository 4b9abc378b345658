use Rattle.std.proofs.Common.{◌≡◌, drop}
use Rattle.std.specs.Prelude.{fold}
use Rattle.pattern_syntax.specs.Tokens.{times_more, times_of}
use Rattle.pattern_syntax.proofs.counts.number_of_times.Given as goal

abbrev pub invariant-loop-b : goal.invariant-loop-b
invariant-loop-b l = fold times_more l.value (drop l.b-index l.digits) ≡ times_of l.digits
