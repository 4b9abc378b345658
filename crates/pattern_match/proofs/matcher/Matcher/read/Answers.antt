use Rattle.pattern_match.proofs.Reading.{dead_front}
use Rattle.pattern_match.proofs.matcher.Matcher.read.Goals as goal

pub returns-then-not-alive-clause-dead : goal.returns-then-not-alive-clause-dead
returns-then-not-alive-clause-dead c = λ _. dead_front c.args.self.now c.args.text.now
    c.loop-byte.byte-index c.alive.result c.if-not-alive.true
    (c.alive.ensures _ c.loop-byte.invariant.1).1
