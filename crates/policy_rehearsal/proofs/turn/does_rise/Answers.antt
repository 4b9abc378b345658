use Rattle.std.proofs.Common.{◌∙◌, ap₂}
use Rattle.std.specs.Prelude.{nat_lt}
use Rattle.relabel_core.specs.Answer.{walk_in}
use Rattle.policy_rehearsal.specs.Seen.{labels_listed}
use Rattle.policy_rehearsal.proofs.TurnLemmas.{rise_seen}
use Rattle.policy_rehearsal.proofs.turn.does_rise.Goals as goal

pub returns : goal.returns
returns c =
    let seen = c.args.seen.now in
    ap₂ (λ a b. nat_lt a b) c.count_at.ensures c.count_at-2.ensures
    ∙ rise_seen (walk_in seen.walked.now) seen.tree.now (labels_listed seen.labels.now) c.args.d
    c.extent.result c.args.counts.now
    c.requires.seen.tree c.extent.ensures.behind c.extent.ensures.within c.requires.counted
    c.extent.ensures.run
