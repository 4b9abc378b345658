use Rattle.std.proofs.Common.{length, refl, ◌≡◌, ◌∙◌, ap, arith}
use Rattle.pattern_syntax.specs.Literal.{literal_start_of}
use Rattle.pattern_syntax.specs.Starts.{behind_start}
use Rattle.pattern_match.proofs.Standing.{known_is, stays_dead, stays_behind, stays_past}
use Rattle.pattern_match.proofs.Standing.{stays_before}
use Rattle.pattern_match.proofs.Standing.{stays_at}
use Rattle.pattern_match.proofs.matcher.Matcher.stays.Goals as goal

pub returns-then-states-start-clause-exact : goal.returns-then-states-start-clause-exact
returns-then-states-start-clause-exact c =
    let s : c.self.inside.start.now ≡ literal_start_of c.args.self.now = c.self.invariant.start
    ∙ ap literal_start_of c.self.view_is in
    let m : c.self.inside.machine ≡ behind_start c.args.self.now = c.self.invariant.behind
    ∙ ap behind_start c.self.view_is in
    stays_past c.args.self.now c.self.inside.start.now c.self.inside.machine s m
    (record { seen = c.states.inside.seen; marks = c.states.inside.marks.marks })
    c.args.states.now.known
    (length c.self.inside.start.now) (known_is c.states.view_is) refl c.if-states-start.true

pub returns-then-states-start-clause-stands : goal.returns-then-states-start-clause-stands
returns-then-states-start-clause-stands c =
    let s : c.self.inside.start.now ≡ literal_start_of c.args.self.now = c.self.invariant.start
    ∙ ap literal_start_of c.self.view_is in
    let m : c.self.inside.machine ≡ behind_start c.args.self.now = c.self.invariant.behind
    ∙ ap behind_start c.self.view_is in
    λ _ byte l u. stays_dead c.args.self.now c.self.inside.start.now c.self.inside.machine s m
    (record { seen = c.states.inside.seen; marks = c.states.inside.marks.marks })
    c.args.states.now.known
    (length c.self.inside.start.now) byte (known_is c.states.view_is) refl c.if-states-start.true

pub returns-then-states-start-2-clause-exact : goal.returns-then-states-start-2-clause-exact
returns-then-states-start-2-clause-exact c =
    let s : c.self.inside.start.now ≡ literal_start_of c.args.self.now = c.self.invariant.start
    ∙ ap literal_start_of c.self.view_is in
    let m : c.self.inside.machine ≡ behind_start c.args.self.now = c.self.invariant.behind
    ∙ ap behind_start c.self.view_is in
    stays_before c.args.self.now c.self.inside.start.now c.self.inside.machine s m
    (record { seen = c.states.inside.seen; marks = c.states.inside.marks.marks })
    c.args.states.now.known
    (length c.self.inside.start.now) (known_is c.states.view_is) refl c.if-states-start-2.true

pub returns-clause-exact : goal.returns-clause-exact
returns-clause-exact c =
    let s : c.self.inside.start.now ≡ literal_start_of c.args.self.now = c.self.invariant.start
    ∙ ap literal_start_of c.self.view_is in
    let m : c.self.inside.machine ≡ behind_start c.args.self.now = c.self.invariant.behind
    ∙ ap behind_start c.self.view_is in
    stays_at c.args.self.now c.self.inside.start.now c.self.inside.machine s m
    (record { seen = c.states.inside.seen; marks = c.states.inside.marks.marks })
    c.args.states.now.known
    (length c.self.inside.start.now) c.stays.result (known_is c.states.view_is) refl (omega arith)
    c.stays.ensures.exact

pub returns-clause-stands : goal.returns-clause-stands
returns-clause-stands c =
    let s : c.self.inside.start.now ≡ literal_start_of c.args.self.now = c.self.invariant.start
    ∙ ap literal_start_of c.self.view_is in
    let m : c.self.inside.machine ≡ behind_start c.args.self.now = c.self.invariant.behind
    ∙ ap behind_start c.self.view_is in
    λ h byte l u. stays_behind c.args.self.now c.self.inside.start.now c.self.inside.machine s m
    (record { seen = c.states.inside.seen; marks = c.states.inside.marks.marks })
    c.args.states.now.known
    (length c.self.inside.start.now) byte (known_is c.states.view_is) refl (omega arith)
    (c.stays.ensures.bytes h byte l u)
