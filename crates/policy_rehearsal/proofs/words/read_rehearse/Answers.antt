use Rattle.policy_rehearsal.proofs.WordLemmas.{few_words}
use Rattle.policy_rehearsal.proofs.words.read_rehearse.Goals as goal

pub returns-clause-few : goal.returns-clause-few
returns-clause-few c =
    few_words c.asked_in.result _ _ _ _ c.as_slice.ensures c.asked_in.ensures.policies
    c.asked_in.ensures.operands c.asked_in.ensures.wet
    c.in_ok-items.ensures.counted c.in_ok-items.ensures.few c.requires
