use Rattle.std.proofs.Common.{◌∙◌}
use Rattle.relabel_core.specs.Answer.{walk_in}
use Rattle.tree_model.proofs.KeptGroups.{first_within}
use Rattle.policy_rehearsal.specs.Seen.{labels_listed}
use Rattle.policy_rehearsal.proofs.SeenLemmas.{after_seen}
use Rattle.policy_rehearsal.proofs.seen.label_after.Goals as goal

pub verdict_at-requires-clause-entry : goal.verdict_at-requires-clause-entry
verdict_at-requires-clause-entry c =
    first_within c.args.seen.now.tree.now c.args.g c.number_at-first.result _ c.requires.group
    c.names_of-names.ensures.value c.number_at-first.ensures

pub returns : goal.returns
returns c =
    let seen = c.args.seen.now in
    c.label_by.ensures
    ∙ after_seen (walk_in seen.walked.now) seen.tree.now (labels_listed seen.labels.now) c.args.g _
    _ _ _ c.requires.seen.tree c.requires.seen.wet c.requires.group
    c.names_of-names.ensures.value c.number_at-first.ensures c.verdict_at.ensures
    c.label_now.ensures
