use Rattle.std.proofs.Common.{refl}
use Rattle.std.specs.List.{flat_map}
use Rattle.path_reasons.specs.Answer.{path_report}
use Rattle.path_reasons.proofs.ListLemmas.{next_part, no_part}
use Rattle.path_reasons.proofs.answer.add_explanations.Goals as goal

pub paths-preserved : goal.paths-preserved
paths-preserved c =
    let part = path_report c.args.by.now.names.now c.args.by.now.lines.now c.args.by.now.asked
    c.args.by.now.brief in
    next_part (flat_map part) part (λ y ys. refl)
    c.args.paths.now c.paths.path-index _ c.paths.text _ _
    c.paths-test.true c.path-item.is c.paths.invariant c.in_ok-add_explanation.ensures

pub returns : goal.returns
returns c =
    let part = path_report c.args.by.now.names.now c.args.by.now.lines.now c.args.by.now.asked
    c.args.by.now.brief in
    no_part (flat_map part) c.args.paths.now c.paths.path-index c.paths.text _ refl
    c.paths-test.false c.paths.invariant
