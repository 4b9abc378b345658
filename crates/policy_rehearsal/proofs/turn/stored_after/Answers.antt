use Rattle.std.proofs.Common.{◌∙◌, ap}
use Rattle.relabel_core.specs.Answer.{walk_in}
use Rattle.policy_rehearsal.specs.Seen.{labels_listed}
use Rattle.policy_rehearsal.proofs.TurnLemmas.{row_counts, row_kept, row_none}
use Rattle.policy_rehearsal.proofs.turn.stored_after.Goals as goal

pub of-requires-clause-each_entry : goal.of-requires-clause-each_entry
of-requires-clause-each_entry c =
    let seen = c.args.seen.now in
    row_counts (walk_in seen.walked.now) seen.tree.now (labels_listed seen.labels.now)
    c.in_ok-row.row c.requires.seen.tree c.in_ok-row.ensures

pub of-requires-clause-directories : goal.of-requires-clause-directories
of-requires-clause-directories c =
    let seen = c.args.seen.now in
    row_none (walk_in seen.walked.now) seen.tree.now (labels_listed seen.labels.now) c.in_ok-row.row
    c.requires.seen.tree c.in_ok-row.ensures
    (λ e other. ap (λ d. d e) c.requires.stored ∙ c.requires.directories e other)

pub returns : goal.returns
returns c =
    let seen = c.args.seen.now in
    row_kept (walk_in seen.walked.now) seen.tree.now (labels_listed seen.labels.now) c.in_ok-row.row
    c.of.result c.requires.seen.tree c.in_ok-row.ensures
    (λ e other. ap (λ d. d e) c.requires.stored ∙ c.requires.directories e other)
    c.of.ensures
