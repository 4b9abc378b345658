use Rattle.home_contexts.specs.Found.{text_found}
use Rattle.run_input.proofs.ReadsLemmas.{followed, opened_one, refused}
use Rattle.home_contexts.proofs.found.read_found.Goals as goal

pub returns-in_err-template : goal.returns-in_err-template
unfolding text_found
returns-in_err-template g c =
    let part = c.in_err-template.ensures in
    refused _ _ _ _ _ _ _ _ _ _ c.from_residual.ensures.1
    (opened_one _ _ _ _ _ _ _ _ part.files part.writes part.answer part.calls part.counts
    part.kinds)

pub returns : goal.returns
unfolding text_found
returns g c =
    let part = c.in_ok-template.ensures in
    followed _ _ _ _ _ _ _ _ _ _ _
    (opened_one _ _ _ _ _ _ _ _ part.files part.writes part.answer part.calls part.counts
    part.kinds) c.expand_file.ensures
