use Rattle.std.proofs.Common.{◌∙◌, sym}
use Rattle.relabel_core.specs.Answer.{walk_in}
use Rattle.policy_rehearsal.specs.Seen.{labels_listed}
use Rattle.policy_rehearsal.proofs.TurnLemmas.{skipped_same}
use Rattle.policy_rehearsal.proofs.turn.turn_of.Goals as goal

pub returns : goal.returns
returns c =
    let seen = c.args.seen.now in
    λ i. record {
      changes = c.in_ok-changes_of.ensures i;
      skipped = (c.count_skipped.ensures
          ∙ sym (skipped_same (walk_in seen.walked.now) (labels_listed seen.labels.now))) i;
    }
