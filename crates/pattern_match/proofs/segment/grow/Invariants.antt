use Rattle.pattern_match.specs.Layouts.{AreGrown}
use Rattle.pattern_match.proofs.segment.grow.Given as goal

abbrev pub invariant-places : goal.invariant-places
invariant-places l = AreGrown l.by l.fn.rows.items l.rows.items l.fn.classes.items l.classes.items
    l._done
