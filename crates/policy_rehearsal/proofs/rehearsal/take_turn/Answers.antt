use Rattle.std.proofs.Common.{◌∙◌, ap}
use Rattle.relabel_core.specs.Answer.{walk_in}
use Rattle.policy_rehearsal.specs.Seen.{labels_listed}
use Rattle.policy_rehearsal.proofs.StandingLemmas.{kept_after, taken_after}
use Rattle.policy_rehearsal.proofs.rehearsal.take_turn.Goals as goal

pub walk_input-input-requires-clause-chosen : goal.walk_input-input-requires-clause-chosen
walk_input-input-requires-clause-chosen c = c.requires.asked.chosen

pub walk_input-input-requires-clause-format : goal.walk_input-input-requires-clause-format
walk_input-input-requires-clause-format c = c.requires.asked.format

pub walk_input-input-requires-clause-few : goal.walk_input-input-requires-clause-few
walk_input-input-requires-clause-few c = c.requires.asked.few

pub taken_from-requires-clause-seen : goal.taken_from-requires-clause-seen
taken_from-requires-clause-seen c =
    let is = c.in_ok-walked.ensures ∙ c.walk_input-input.ensures.walk in
    record {
      tree = ap (λ w. w.entries) is;
      rules = ap (λ w. w.rules) is;
      force = ap (λ w. w.options.force) is;
      wet = ap (λ w. w.options.dry) is ∙ c.requires.asked.wet;
      each_group = c.requires.kept.each_group;
    }

pub taken_from-requires-clause-stored : goal.taken_from-requires-clause-stored
taken_from-requires-clause-stored c =
    ap (λ w. w.stored) (c.in_ok-walked.ensures ∙ c.walk_input-input.ensures.walk)

pub returns-clause-kept : goal.returns-clause-kept
returns-clause-kept c =
    let is = c.in_ok-walked.ensures ∙ c.walk_input-input.ensures.walk in
    kept_after (walk_in c.in_ok-walked.walked) c.args.asked.now.tree.now
    (labels_listed c.args.at.now.labels) c.taken_from.result
    (ap (λ w. w.entries) is) (λ e other. ap (λ w. w.stored e) is
    ∙ c.requires.kept.directories e other)
    c.taken_from.ensures.labels c.taken_from.ensures.stored

pub returns-clause-taken : goal.returns-clause-taken
returns-clause-taken c = λ s now.
    taken_after (walk_in c.in_ok-walked.walked) c.args.asked.now.tree.now s _ c.args.at.now
    c.taken_from.result
    c.requires.asked.format (c.in_ok-walked.ensures ∙ c.walk_input-input.ensures.walk)
    c.taken_from.ensures.turn c.taken_from.ensures.labels c.taken_from.ensures.stored now
