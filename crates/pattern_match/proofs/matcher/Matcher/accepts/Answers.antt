use Rattle.std.proofs.Common.{length, refl, ◌≡◌, ◌∙◌, ap, false}
use Rattle.pattern_syntax.specs.Literal.{literal_start_of}
use Rattle.pattern_syntax.specs.Starts.{behind_start}
use Rattle.pattern_match.proofs.Standing.{known_is, not_accepted, accepted, shows_holds}
use Rattle.pattern_match.proofs.matcher.Matcher.accepts.Goals as goal

pub returns-then-states-start-clause-language : goal.returns-then-states-start-clause-language
returns-then-states-start-clause-language c =
    let s : c.self.inside.start.now ≡ literal_start_of c.args.self.now = c.self.invariant.start
    ∙ ap literal_start_of c.self.view_is in
    let m : c.self.inside.machine ≡ behind_start c.args.self.now = c.self.invariant.behind
    ∙ ap behind_start c.self.view_is in
    not_accepted c.args.self.now c.self.inside.start.now c.self.inside.machine s m
    (record { seen = c.states.inside.seen; marks = c.states.inside.marks.marks })
    c.args.states.now.known
    (length c.self.inside.start.now) (known_is c.states.view_is) refl c.if-states-start.true

pub returns-then-states-start-clause-value : goal.returns-then-states-start-clause-value
returns-then-states-start-clause-value c =
    let s : c.self.inside.start.now ≡ literal_start_of c.args.self.now = c.self.invariant.start
    ∙ ap literal_start_of c.self.view_is in
    let m : c.self.inside.machine ≡ behind_start c.args.self.now = c.self.invariant.behind
    ∙ ap behind_start c.self.view_is in
    λ text h. shows_holds c.args.self.now text false
    (not_accepted c.args.self.now c.self.inside.start.now c.self.inside.machine s m
    (record { seen = c.states.inside.seen; marks = c.states.inside.marks.marks })
    c.args.states.now.known
    (length c.self.inside.start.now) (known_is c.states.view_is) refl c.if-states-start.true text h)

pub returns-clause-language : goal.returns-clause-language
returns-clause-language c =
    let s : c.self.inside.start.now ≡ literal_start_of c.args.self.now = c.self.invariant.start
    ∙ ap literal_start_of c.self.view_is in
    let m : c.self.inside.machine ≡ behind_start c.args.self.now = c.self.invariant.behind
    ∙ ap behind_start c.self.view_is in
    accepted c.args.self.now c.self.inside.start.now c.self.inside.machine s m
    (record { seen = c.states.inside.seen; marks = c.states.inside.marks.marks })
    c.args.states.now.known
    (length c.self.inside.start.now) c.accepts.result (known_is c.states.view_is) refl
    c.if-states-start.false
    c.accepts.ensures

pub returns-clause-value : goal.returns-clause-value
returns-clause-value c =
    let s : c.self.inside.start.now ≡ literal_start_of c.args.self.now = c.self.invariant.start
    ∙ ap literal_start_of c.self.view_is in
    let m : c.self.inside.machine ≡ behind_start c.args.self.now = c.self.invariant.behind
    ∙ ap behind_start c.self.view_is in
    λ text h. shows_holds c.args.self.now text c.accepts.result
    (accepted c.args.self.now c.self.inside.start.now c.self.inside.machine s m
    (record { seen = c.states.inside.seen; marks = c.states.inside.marks.marks })
    c.args.states.now.known
    (length c.self.inside.start.now) c.accepts.result (known_is c.states.view_is) refl
    c.if-states-start.false
    c.accepts.ensures text h)
