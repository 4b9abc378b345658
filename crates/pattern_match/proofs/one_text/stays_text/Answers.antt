use Rattle.std.proofs.Common.{refl, sym, ap, length}
use Rattle.pattern_syntax.specs.Literal.{literal_start_of}
use Rattle.pattern_syntax.specs.Tree.{Nothing}
use Rattle.pattern_match.proofs.OneText.{text_stays_not}
use Rattle.pattern_match.proofs.Standing.{known_is, stays_dead, stays_past}
use Rattle.pattern_match.proofs.one_text.stays_text.Goals as goal

pub returns-then-states-start-clause-exact : goal.returns-then-states-start-clause-exact
returns-then-states-start-clause-exact c =
    stays_past c.args.pattern.now.tree (literal_start_of c.args.pattern.now.tree) Nothing refl
    (sym c.requires.one)
    (record { seen = c.states.inside.seen; marks = c.states.inside.marks.marks })
    c.args.states.now.known (length c.start-start.result.now) (known_is c.states.view_is)
    (ap length c.start-start.ensures) c.if-states-start.true

pub returns-then-states-start-clause-stands : goal.returns-then-states-start-clause-stands
returns-then-states-start-clause-stands c =
    λ _ byte l u. stays_dead c.args.pattern.now.tree
    (literal_start_of c.args.pattern.now.tree) Nothing refl
    (sym c.requires.one)
    (record { seen = c.states.inside.seen; marks = c.states.inside.marks.marks })
    c.args.states.now.known (length c.start-start.result.now) byte (known_is c.states.view_is)
    (ap length c.start-start.ensures) c.if-states-start.true

pub returns-clause-exact : goal.returns-clause-exact
returns-clause-exact c =
    text_stays_not c.args.pattern.now.tree
    (record { seen = c.states.inside.seen; marks = c.states.inside.marks.marks })
    c.args.states.now.known (length c.start-start.result.now) c.requires.one
    (known_is c.states.view_is) (ap length c.start-start.ensures) c.if-states-start.false
