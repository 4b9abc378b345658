use Rattle.std.proofs.Common.{◌≡◌, take}
use Rattle.pattern_match.specs.States.{AreStatesOf, StandsFor}
use Rattle.pattern_match.proofs.matcher.Matcher.read.Given as goal

abbrev pub invariant-loop-byte : goal.invariant-loop-byte
invariant-loop-byte l = AreStatesOf l.self l.states.known
    × StandsFor l.self l.states.known (take l.byte-index l.text)
    × (l.states.room ≡ l.fn.states.room)
