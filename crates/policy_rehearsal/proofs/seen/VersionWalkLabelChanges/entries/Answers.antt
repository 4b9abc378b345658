use Rattle.std.proofs.Common.{◌∙◌, sym}
use Rattle.relabel_core.specs.Answer.{walk_in}
use Rattle.policy_rehearsal.specs.Seen.{labels_listed}
use Rattle.policy_rehearsal.proofs.TurnLemmas.{entries_over}
use Rattle.policy_rehearsal.proofs.seen.VersionWalkLabelChanges.entries.Goals as goal

pub returns : goal.returns
returns c =
    let seen = c.args.self.now in
    c.len.ensures
    ∙ sym (entries_over (walk_in seen.walked.now) seen.tree.now (labels_listed seen.labels.now)
    c.requires.tree)
