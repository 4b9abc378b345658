use Rattle.std.proofs.Common.{◌∙◌, ap, sym}
use Rattle.std.specs.Prelude.{None, if◌then◌else◌}
use Rattle.label_rules.specs.Decide.{given_in}
use Rattle.tree_model.specs.Groups.{group_of}
use Rattle.relabel_core.specs.Answer.{walk_in}
use Rattle.relabel_core.specs.Walk.{is_found_at, verdict}
use Rattle.policy_rehearsal.specs.Seen.{labels_listed, walk_seen}
use Rattle.policy_rehearsal.proofs.SeenLemmas.{change_seen}
use Rattle.policy_rehearsal.proofs.seen.change_at.Goals as goal

pub returns-then-is_found_at : goal.returns-then-is_found_at
returns-then-is_found_at c =
    let seen = c.args.seen.now in
    let w = walk_in seen.walked.now in
    c.given_in.ensures ∙ ap given_in c.verdict_at.ensures
    ∙ sym (change_seen w seen.tree.now (labels_listed seen.labels.now) c.args.e c.requires.seen.tree
    c.requires.seen.wet
    ∙ ap (λ here. if here then given_in (verdict (walk_seen seen) (group_of seen.tree.now c.args.e))
    else None)
    (ap (λ found. is_found_at found c.args.e) (sym c.winner.ensures.value)
    ∙ sym c.is_found_at.ensures ∙ c.if-is_found_at.true))

pub returns-else-is_found_at : goal.returns-else-is_found_at
returns-else-is_found_at c =
    let seen = c.args.seen.now in
    let w = walk_in seen.walked.now in
    sym (change_seen w seen.tree.now (labels_listed seen.labels.now) c.args.e c.requires.seen.tree
    c.requires.seen.wet
    ∙ ap (λ here. if here then given_in (verdict (walk_seen seen) (group_of seen.tree.now c.args.e))
    else None)
    (ap (λ found. is_found_at found c.args.e) (sym c.winner.ensures.value)
    ∙ sym c.is_found_at.ensures ∙ c.if-is_found_at.false))
