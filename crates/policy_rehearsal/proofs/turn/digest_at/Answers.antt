use Rattle.std.proofs.Common.{◌∙◌, ap, sym}
use Rattle.relabel_core.specs.Answer.{walk_in}
use Rattle.policy_rehearsal.specs.Seen.{labels_listed}
use Rattle.policy_rehearsal.proofs.TurnLemmas.{anew_copied, kept_copied}
use Rattle.policy_rehearsal.proofs.turn.digest_at.Goals as goal

pub returns-in-Some : goal.returns-in-Some
returns-in-Some c =
    let seen = c.args.seen.now in
    anew_copied (walk_in seen.walked.now) (labels_listed seen.labels.now) c.args.d c.renewed.result
    c.in-Some.digest _ c.copied.result
    c.renewed.ensures c.in-Some.is c.as_bytes.ensures c.copied.ensures

pub returns-in-None : goal.returns-in-None
returns-in-None c =
    let seen = c.args.seen.now in
    kept_copied (walk_in seen.walked.now) (labels_listed seen.labels.now) c.args.d c.renewed.result
    _ c.does_rise.result c.kept_or_void.result
    c.requires.seen.wet c.renewed.ensures c.in-None.is
    (c.get.ensures ∙ sym (ap (λ f. f c.args.d) c.requires.stored))
    c.does_rise.ensures c.kept_or_void.ensures
