use Rattle.home_contexts.specs.Found.{text_for}
use Rattle.run_input.proofs.ReadsLemmas.{ended, refused}
use Rattle.home_contexts.proofs.found.expand_file.Goals as goal

pub returns-in_err-users : goal.returns-in_err-users
unfolding text_for
returns-in_err-users g c =
    refused _ _ _ _ _ _ _ _ _ _ c.from_residual.ensures.1 c.in_err-users.ensures

pub returns : goal.returns
unfolding text_for
returns g c =
    let made = c.text_in.ensures in
    ended _ _ _ _ _ _ _ _ _ _ c.in_ok-users.ensures (λ fs. made.answer) made.counts made.kinds
