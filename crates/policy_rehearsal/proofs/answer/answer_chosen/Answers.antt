use Rattle.policy_rehearsal.proofs.WordLemmas.{absent_few, answer_shown}
use Rattle.policy_rehearsal.proofs.answer.answer_chosen.Goals as goal

pub ending_of-requires : goal.ending_of-requires
ending_of-requires c =
    absent_few c.args.words.now c.args.tree.now c.absent_in.result.now c.args.chosen.now
    c.absent_in.ensures c.requires.chosen c.requires.words.operands

pub returns : goal.returns
returns c =
    answer_shown c.args.words.now c.args.policies.now c.args.tree.now c.absent_in.result.now
    c.args.chosen.now _ c.ending_of.result
    c.absent_in.ensures c.requires.chosen c.in_ok-rehearsed.ensures.answer c.ending_of.ensures
