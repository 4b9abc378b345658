use Rattle.std.proofs.Common.{◌≡◌, ◌∙◌, ap}
use Rattle.pattern_syntax.specs.Literal.{literal_start_of}
use Rattle.pattern_syntax.specs.Starts.{behind_start}
use Rattle.pattern_match.proofs.Standing.{started}
use Rattle.pattern_match.proofs.matcher.Matcher.states.Goals as goal

pub returns-clause-stands : goal.returns-clause-stands
returns-clause-stands c =
    let s : c.self.inside.start.now ≡ literal_start_of c.args.self.now = c.self.invariant.start
    ∙ ap literal_start_of c.self.view_is in
    let m : c.self.inside.machine ≡ behind_start c.args.self.now = c.self.invariant.behind
    ∙ ap behind_start c.self.view_is in
    started c.args.self.now c.self.inside.start.now c.self.inside.machine s m
    c.in_ok-marks.field-0.marks
    (c.in_ok-marks.ensures.starts)
