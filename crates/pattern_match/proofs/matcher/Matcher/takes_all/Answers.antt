use Rattle.std.proofs.Common.{length, refl, ◌≡◌, ◌∙◌, ap}
use Rattle.pattern_syntax.specs.Literal.{literal_start_of}
use Rattle.pattern_syntax.specs.Starts.{behind_start}
use Rattle.pattern_match.proofs.Standing.{known_is, takes_all, leads_at, leads_not}
use Rattle.pattern_match.proofs.matcher.Matcher.takes_all.Goals as goal

pub returns-then-states-start-clause-exact : goal.returns-then-states-start-clause-exact
returns-then-states-start-clause-exact c =
    let s : c.self.inside.start.now ≡ literal_start_of c.args.self.now = c.self.invariant.start
    ∙ ap literal_start_of c.self.view_is in
    let m : c.self.inside.machine ≡ behind_start c.args.self.now = c.self.invariant.behind
    ∙ ap behind_start c.self.view_is in
    leads_not c.args.self.now c.self.inside.start.now c.self.inside.machine s m
    (record { seen = c.states.inside.seen; marks = c.states.inside.marks.marks })
    c.args.states.now.known
    (length c.self.inside.start.now) (known_is c.states.view_is) refl c.if-states-start.true

pub returns-clause-exact : goal.returns-clause-exact
returns-clause-exact c =
    let s : c.self.inside.start.now ≡ literal_start_of c.args.self.now = c.self.invariant.start
    ∙ ap literal_start_of c.self.view_is in
    let m : c.self.inside.machine ≡ behind_start c.args.self.now = c.self.invariant.behind
    ∙ ap behind_start c.self.view_is in
    leads_at c.args.self.now c.self.inside.start.now c.self.inside.machine s m
    (record { seen = c.states.inside.seen; marks = c.states.inside.marks.marks })
    c.args.states.now.known
    (length c.self.inside.start.now) c.takes_all.result (known_is c.states.view_is) refl
    c.if-states-start.false
    c.takes_all.ensures.exact

pub returns-clause-texts : goal.returns-clause-texts
returns-clause-texts c =
    let s : c.self.inside.start.now ≡ literal_start_of c.args.self.now = c.self.invariant.start
    ∙ ap literal_start_of c.self.view_is in
    let m : c.self.inside.machine ≡ behind_start c.args.self.now = c.self.invariant.behind
    ∙ ap behind_start c.self.view_is in
    λ h. takes_all c.args.self.now c.self.inside.start.now c.self.inside.machine s m
    (record { seen = c.states.inside.seen; marks = c.states.inside.marks.marks })
    c.args.states.now.known
    (length c.self.inside.start.now) (known_is c.states.view_is) refl c.if-states-start.false
    (c.takes_all.ensures.texts h)
