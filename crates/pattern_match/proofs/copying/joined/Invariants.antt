use Rattle.pattern_match.proofs.Repeats.{AreJoined}
use Rattle.pattern_match.proofs.copying.joined.Given as goal

abbrev pub invariant-copies : goal.invariant-copies
invariant-copies l = AreJoined l.fn.rows.items l.rows.items l.piece l.made l.places l.least l.left
    l.copies l.fn.rest

abbrev pub decreases-copies : goal.decreases-copies
decreases-copies l = l.left
