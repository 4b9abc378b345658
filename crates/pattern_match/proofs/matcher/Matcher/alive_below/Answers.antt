use Rattle.std.proofs.Common.{refl, sym, false, true, ◌∙◌}
use Rattle.pattern_match.proofs.Quotients.{below_test}
use Rattle.pattern_match.proofs.Reading.{none_below, root_below, accepted_below, below_by}
use Rattle.pattern_match.proofs.matcher.Matcher.alive_below.Goals as goal

pub returns-then-not-read-clause-below : goal.returns-then-not-read-clause-below
returns-then-not-read-clause-below c =
    none_below c.args.self.now c.args.path.now c.as_text.result.now c.as_text.ensures.value
    (c.if-not-read.ensures.dead refl)

pub returns-then-not-read-clause-test : goal.returns-then-not-read-clause-test
returns-then-not-read-clause-test c = below_test c.args.self.now c.args.path.now false
    (none_below c.args.self.now c.args.path.now c.as_text.result.now c.as_text.ensures.value
    (c.if-not-read.ensures.dead refl))

pub returns-then-names-eq0-clause-test : goal.returns-then-names-eq0-clause-test
returns-then-names-eq0-clause-test c = below_test c.args.self.now c.args.path.now c.alive.result
    (root_below c.args.self.now c.args.path.now c.as_text.result.now c.read.new.states.known
    c.alive.result c.as_text.ensures.value (sym c.names.ensures ∙ c.if-names-eq0.true)
    (c.if-not-read.ensures.stands refl) c.alive.ensures)

pub returns-then-accepts-clause-test : goal.returns-then-accepts-clause-test
returns-then-accepts-clause-test c = below_test c.args.self.now c.args.path.now true
    (accepted_below c.args.self.now c.args.path.now c.as_text.result.now c.read.new.states.known
    c.as_text.ensures.value (λ e. c.if-names-eq0.false (c.names.ensures ∙ e))
    (c.if-not-read.ensures.stands refl) c.if-accepts.ensures.language)

pub returns-clause-below : goal.returns-clause-below
returns-clause-below c = below_by c.args.self.now c.args.path.now c.as_text.result.now
    c.read.new.states.known c.step.new.states.known false c.alive-2.result c.as_text.ensures.value
    (λ e. c.if-names-eq0.false (c.names.ensures ∙ e)) (c.if-not-read.ensures.stands refl)
    c.if-accepts.ensures.language refl c.step.ensures.stands c.alive-2.ensures

pub returns-clause-test : goal.returns-clause-test
returns-clause-test c = below_test c.args.self.now c.args.path.now c.alive-2.result
    (below_by c.args.self.now c.args.path.now c.as_text.result.now c.read.new.states.known
    c.step.new.states.known false c.alive-2.result c.as_text.ensures.value
    (λ e. c.if-names-eq0.false (c.names.ensures ∙ e)) (c.if-not-read.ensures.stands refl)
    c.if-accepts.ensures.language refl c.step.ensures.stands c.alive-2.ensures)
