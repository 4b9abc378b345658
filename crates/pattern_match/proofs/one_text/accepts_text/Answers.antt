use Rattle.std.proofs.Common.{sym, ap, refl, length, false, true}
use Rattle.pattern_syntax.specs.Literal.{literal_start_of}
use Rattle.pattern_syntax.specs.Tree.{Nothing}
use Rattle.pattern_match.proofs.OneText.{none_left}
use Rattle.pattern_match.proofs.Standing.{known_is, not_accepted, accepted, shows_holds}
use Rattle.pattern_match.proofs.one_text.accepts_text.Goals as goal

pub returns-then-states-start : goal.returns-then-states-start
returns-then-states-start c =
    λ text h. shows_holds c.args.pattern.now.tree text false
    (not_accepted c.args.pattern.now.tree (literal_start_of c.args.pattern.now.tree) Nothing refl
    (sym c.requires.one)
    (record { seen = c.states.inside.seen; marks = c.states.inside.marks.marks })
    c.args.states.now.known (length c.start-start.result.now) (known_is c.states.view_is)
    (ap length c.start-start.ensures) c.if-states-start.true text h)

pub returns : goal.returns
returns c =
    λ text h. shows_holds c.args.pattern.now.tree text true
    (accepted c.args.pattern.now.tree (literal_start_of c.args.pattern.now.tree) Nothing refl
    (sym c.requires.one)
    (record { seen = c.states.inside.seen; marks = c.states.inside.marks.marks })
    c.args.states.now.known (length c.start-start.result.now) true (known_is c.states.view_is)
    (ap length c.start-start.ensures) c.if-states-start.false (λ _. none_left _, λ _. refl) text
    h)
