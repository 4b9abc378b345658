use Rattle.pattern_match.proofs.Ready.{nothing_left}
use Rattle.pattern_match.proofs.machine.Machine.read.Goals as goal

pub returns-then-not-alive-clause-dead : goal.returns-then-not-alive-clause-dead
returns-then-not-alive-clause-dead c = λ _. nothing_left c.args.self.now c.loop-byte.marks.marks
    c.args.text.now c.loop-byte.byte-index c.alive.result c.if-not-alive.true c.alive.ensures.onto
    c.loop-byte.invariant.1
