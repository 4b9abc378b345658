use Rattle.std.proofs.Common.{sym, refl, arith}
use Rattle.pattern_syntax.specs.Literal.{literal_start_of}
use Rattle.pattern_syntax.specs.Tree.{Nothing}
use Rattle.pattern_match.proofs.OneText.{nothing_is_bare}
use Rattle.pattern_match.proofs.Standing.{known_is, steps_start, steps_other, steps_dead}
use Rattle.pattern_match.proofs.Standing.{steps_bare}
use Rattle.pattern_match.proofs.one_text.step_text.Goals as goal

pub returns-then-seen-start-clause-stands : goal.returns-then-seen-start-clause-stands
returns-then-seen-start-clause-stands c =
    steps_dead c.args.pattern.now.tree (literal_start_of c.args.pattern.now.tree) Nothing refl
    (sym c.requires.one)
    (record { seen = c.states.inside.seen; marks = c.states.inside.marks.marks })
    c.args.states.now.known c.start-start.result.now c.args.byte (known_is c.states.view_is)
    c.start-start.ensures c.if-seen-start.true

pub returns-then-start-seen-clause-stands : goal.returns-then-start-seen-clause-stands
returns-then-start-seen-clause-stands c =
    steps_start c.args.pattern.now.tree (literal_start_of c.args.pattern.now.tree) Nothing refl
    (sym c.requires.one)
    (record { seen = c.states.inside.seen; marks = c.states.inside.marks.marks })
    c.args.states.now.known c.start-start.result.now c.args.byte (known_is c.states.view_is)
    c.start-start.ensures c.if-seen-start-2.true c.if-start-seen.true

pub returns-then-seen-start-2-clause-stands : goal.returns-then-seen-start-2-clause-stands
returns-then-seen-start-2-clause-stands c =
    steps_other c.args.pattern.now.tree (literal_start_of c.args.pattern.now.tree) Nothing refl
    (sym c.requires.one)
    (record { seen = c.states.inside.seen; marks = c.states.inside.marks.marks })
    c.args.states.now.known c.start-start.result.now c.args.byte (known_is c.states.view_is)
    c.start-start.ensures c.if-seen-start-2.true c.if-start-seen.false

pub returns-clause-stands : goal.returns-clause-stands
returns-clause-stands c =
    steps_bare c.args.pattern.now.tree (literal_start_of c.args.pattern.now.tree) Nothing refl
    (sym c.requires.one)
    (record { seen = c.states.inside.seen; marks = c.states.inside.marks.marks })
    c.args.states.now.known c.start-start.result.now c.args.byte (known_is c.states.view_is)
    c.start-start.ensures (omega arith) nothing_is_bare
