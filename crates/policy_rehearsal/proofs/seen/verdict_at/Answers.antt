use Rattle.std.proofs.Common.{◌∙◌, ap}
use Rattle.relabel_core.specs.Answer.{walk_in}
use Rattle.policy_rehearsal.specs.Seen.{labels_listed}
use Rattle.policy_rehearsal.proofs.SeenLemmas.{verdict_seen}
use Rattle.policy_rehearsal.proofs.seen.verdict_at.Goals as goal

pub returns : goal.returns
returns c =
    let seen = c.args.seen.now in
    c.verdict_where.ensures
    ∙ verdict_seen (walk_in seen.walked.now) seen.tree.now (labels_listed seen.labels.now) c.args.e
    _ _ seen.force seen.rules.now
    c.requires.seen.tree c.requires.seen.rules c.requires.seen.force c.requires.entry
    (c.label_now-label.ensures ∙ ap (labels_listed seen.labels.now) c.group.ensures.value)
    c.winning_at.ensures
