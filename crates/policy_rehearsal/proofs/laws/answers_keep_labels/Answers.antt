use Rattle.std.proofs.Common.{◌≡◌, refl}
use Rattle.policy_rehearsal.proofs.ShownLemmas.{answer_keeps}
use Rattle.policy_rehearsal.proofs.laws.answers_keep_labels.Goals as goal

pub returns : goal.returns
returns c = λ words known input ending is.
    answer_keeps words known input (λ report. ending.report ≡ report) ending is refl
