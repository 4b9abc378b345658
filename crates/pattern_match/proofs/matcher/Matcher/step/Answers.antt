use Rattle.std.proofs.Common.{refl, ◌≡◌, ◌∙◌, sym, ap, arith}
use Rattle.pattern_syntax.specs.Literal.{literal_start_of}
use Rattle.pattern_syntax.specs.Starts.{behind_start}
use Rattle.pattern_match.proofs.Standing.{known_is, steps_start, steps_other, steps_dead}
use Rattle.pattern_match.proofs.Standing.{steps_bare}
use Rattle.pattern_match.proofs.Standing.{steps_behind}
use Rattle.pattern_match.proofs.matcher.Matcher.step.Goals as goal

pub returns-then-seen-start-clause-stands : goal.returns-then-seen-start-clause-stands
returns-then-seen-start-clause-stands c =
    let s : c.self.inside.start.now ≡ literal_start_of c.args.self.now = c.self.invariant.start
    ∙ ap literal_start_of c.self.view_is in
    let m : c.self.inside.machine ≡ behind_start c.args.self.now = c.self.invariant.behind
    ∙ ap behind_start c.self.view_is in
    steps_dead c.args.self.now c.self.inside.start.now c.self.inside.machine s m
    (record { seen = c.states.inside.seen; marks = c.states.inside.marks.marks })
    c.args.states.now.known
    c.self.inside.start.now c.args.byte (known_is c.states.view_is) refl
    c.if-seen-start.true

pub returns-then-start-seen-clause-stands : goal.returns-then-start-seen-clause-stands
returns-then-start-seen-clause-stands c =
    let s : c.self.inside.start.now ≡ literal_start_of c.args.self.now = c.self.invariant.start
    ∙ ap literal_start_of c.self.view_is in
    let m : c.self.inside.machine ≡ behind_start c.args.self.now = c.self.invariant.behind
    ∙ ap behind_start c.self.view_is in
    steps_start c.args.self.now c.self.inside.start.now c.self.inside.machine s m
    (record { seen = c.states.inside.seen; marks = c.states.inside.marks.marks })
    c.args.states.now.known
    c.self.inside.start.now c.args.byte (known_is c.states.view_is) refl
    c.if-seen-start-2.true c.if-start-seen.true

pub returns-then-seen-start-2-clause-stands : goal.returns-then-seen-start-2-clause-stands
returns-then-seen-start-2-clause-stands c =
    let s : c.self.inside.start.now ≡ literal_start_of c.args.self.now = c.self.invariant.start
    ∙ ap literal_start_of c.self.view_is in
    let m : c.self.inside.machine ≡ behind_start c.args.self.now = c.self.invariant.behind
    ∙ ap behind_start c.self.view_is in
    steps_other c.args.self.now c.self.inside.start.now c.self.inside.machine s m
    (record { seen = c.states.inside.seen; marks = c.states.inside.marks.marks })
    c.args.states.now.known
    c.self.inside.start.now c.args.byte (known_is c.states.view_is) refl
    c.if-seen-start-2.true c.if-start-seen.false

pub returns-then-is_bare-clause-stands : goal.returns-then-is_bare-clause-stands
returns-then-is_bare-clause-stands c =
    let s : c.self.inside.start.now ≡ literal_start_of c.args.self.now = c.self.invariant.start
    ∙ ap literal_start_of c.self.view_is in
    let m : c.self.inside.machine ≡ behind_start c.args.self.now = c.self.invariant.behind
    ∙ ap behind_start c.self.view_is in
    steps_bare c.args.self.now c.self.inside.start.now c.self.inside.machine s m
    (record { seen = c.states.inside.seen; marks = c.states.inside.marks.marks })
    c.args.states.now.known
    c.self.inside.start.now c.args.byte (known_is c.states.view_is) refl
    (omega arith) (sym c.is_bare.ensures ∙ c.if-is_bare.true)

pub returns-clause-stands : goal.returns-clause-stands
returns-clause-stands c =
    let s : c.self.inside.start.now ≡ literal_start_of c.args.self.now = c.self.invariant.start
    ∙ ap literal_start_of c.self.view_is in
    let m : c.self.inside.machine ≡ behind_start c.args.self.now = c.self.invariant.behind
    ∙ ap behind_start c.self.view_is in
    steps_behind c.args.self.now c.self.inside.start.now c.self.inside.machine s m
    (record { seen = c.states.inside.seen; marks = c.states.inside.marks.marks })
    c.args.states.now.known
    c.self.inside.start.now c.step.new.marks.marks c.args.byte (known_is c.states.view_is)
    refl (omega arith) c.step.ensures.behind
