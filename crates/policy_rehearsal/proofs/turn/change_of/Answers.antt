use Rattle.std.proofs.Common.{◌∙◌, ap}
use Rattle.relabel_core.specs.Answer.{walk_in}
use Rattle.policy_rehearsal.specs.Seen.{labels_listed}
use Rattle.policy_rehearsal.proofs.TurnLemmas.{change_shown}
use Rattle.policy_rehearsal.proofs.turn.change_of.Goals as goal

pub returns-in-Some : goal.returns-in-Some
returns-in-Some c =
    let seen = c.args.seen.now in
    change_shown (walk_in seen.walked.now) seen.tree.now (labels_listed seen.labels.now) c.args.e
    c.change_at.result c.in-Some.to c.label_now.result
    c.requires.seen.tree c.requires.entry c.change_at.ensures c.in-Some.is
    (c.label_now.ensures ∙ ap (labels_listed seen.labels.now) c.group.ensures.value)
