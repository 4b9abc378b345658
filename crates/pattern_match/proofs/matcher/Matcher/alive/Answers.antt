use Rattle.std.proofs.Common.{length, refl, ◌≡◌, ◌∙◌, ap}
use Rattle.pattern_syntax.specs.Literal.{literal_start_of}
use Rattle.pattern_syntax.specs.Starts.{behind_start}
use Rattle.pattern_match.proofs.Standing.{known_is, is_dead, is_alive}
use Rattle.pattern_match.proofs.matcher.Matcher.alive.Goals as goal

pub returns : goal.returns
returns c =
    let s : c.self.inside.start.now ≡ literal_start_of c.args.self.now = c.self.invariant.start
    ∙ ap literal_start_of c.self.view_is in
    let m : c.self.inside.machine ≡ behind_start c.args.self.now = c.self.invariant.behind
    ∙ ap behind_start c.self.view_is in
    is_alive c.args.self.now c.self.inside.start.now c.self.inside.machine s m
    (record { seen = c.states.inside.seen; marks = c.states.inside.marks.marks })
    c.args.states.now.known
    (length c.self.inside.start.now) c.alive.result (known_is c.states.view_is) refl
    c.if-states-start.false
    c.alive.ensures.onto c.alive.ensures.from

pub returns-then-states-start : goal.returns-then-states-start
returns-then-states-start c =
    let s : c.self.inside.start.now ≡ literal_start_of c.args.self.now = c.self.invariant.start
    ∙ ap literal_start_of c.self.view_is in
    let m : c.self.inside.machine ≡ behind_start c.args.self.now = c.self.invariant.behind
    ∙ ap behind_start c.self.view_is in
    is_dead c.args.self.now c.self.inside.start.now c.self.inside.machine s m
    (record { seen = c.states.inside.seen; marks = c.states.inside.marks.marks })
    c.args.states.now.known
    (length c.self.inside.start.now) (known_is c.states.view_is) refl c.if-states-start.true
