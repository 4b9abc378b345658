use Rattle.std.proofs.Common.{refl, ◌≡◌, ◌∙◌, sym, ap, false}
use Rattle.pattern_syntax.specs.Literal.{literal_start_of}
use Rattle.pattern_syntax.specs.Starts.{behind_start}
use Rattle.pattern_match.proofs.Standing.{matches_not, matches_rest, whole_rest, shows_holds}
use Rattle.pattern_match.proofs.matcher.Matcher.matches.Goals as goal

pub returns-then-not-begins_with-clause-language : goal.returns-then-not-begins_with-clause-language
returns-then-not-begins_with-clause-language c =
    let s : c.self.inside.start.now ≡ literal_start_of c.args.self.now = c.self.invariant.start
    ∙ ap literal_start_of c.self.view_is in
    let m : c.self.inside.machine ≡ behind_start c.args.self.now = c.self.invariant.behind
    ∙ ap behind_start c.self.view_is in
    matches_not c.args.self.now c.self.inside.start.now c.self.inside.machine s m c.args.text.now
    c.self.inside.start.now refl (sym c.begins_with.ensures.value
    ∙ c.if-not-begins_with.true)

pub returns-then-not-begins_with-clause-value : goal.returns-then-not-begins_with-clause-value
returns-then-not-begins_with-clause-value c =
    let s : c.self.inside.start.now ≡ literal_start_of c.args.self.now = c.self.invariant.start
    ∙ ap literal_start_of c.self.view_is in
    let m : c.self.inside.machine ≡ behind_start c.args.self.now = c.self.invariant.behind
    ∙ ap behind_start c.self.view_is in
    shows_holds c.args.self.now c.args.text.now false
    (matches_not c.args.self.now c.self.inside.start.now c.self.inside.machine s m c.args.text.now
    c.self.inside.start.now refl (sym c.begins_with.ensures.value
    ∙ c.if-not-begins_with.true))

pub returns-clause-language : goal.returns-clause-language
returns-clause-language c =
    let s : c.self.inside.start.now ≡ literal_start_of c.args.self.now = c.self.invariant.start
    ∙ ap literal_start_of c.self.view_is in
    let m : c.self.inside.machine ≡ behind_start c.args.self.now = c.self.invariant.behind
    ∙ ap behind_start c.self.view_is in
    matches_rest c.args.self.now c.self.inside.start.now c.self.inside.machine s m c.args.text.now
    c.self.inside.start.now _ c.matches.result refl
    (sym c.begins_with.ensures.value ∙ c.if-not-begins_with.false)
    (whole_rest c.args.text.now c.self.inside.start.now) c.matches.ensures.language

pub returns-clause-value : goal.returns-clause-value
returns-clause-value c =
    let s : c.self.inside.start.now ≡ literal_start_of c.args.self.now = c.self.invariant.start
    ∙ ap literal_start_of c.self.view_is in
    let m : c.self.inside.machine ≡ behind_start c.args.self.now = c.self.invariant.behind
    ∙ ap behind_start c.self.view_is in
    shows_holds c.args.self.now c.args.text.now c.matches.result
    (matches_rest c.args.self.now c.self.inside.start.now c.self.inside.machine s m c.args.text.now
    c.self.inside.start.now _ c.matches.result refl
    (sym c.begins_with.ensures.value ∙ c.if-not-begins_with.false)
    (whole_rest c.args.text.now c.self.inside.start.now) c.matches.ensures.language)
