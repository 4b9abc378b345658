use Rattle.std.proofs.Common.{◌≡◌, ◌∙◌, ap₂, sym, ◌++◌, [], length, arith}
use Rattle.std.specs.List.{cons_option}
use Rattle.relabel_core.specs.Answer.{walk_in}
use Rattle.policy_rehearsal.specs.Seen.{labels_listed, walk_seen}
use Rattle.policy_rehearsal.proofs.TurnLemmas.{all_changes, changes_more, entries_over}
use Rattle.policy_rehearsal.proofs.turn.changes_of.Goals as goal

pub entries-preserved : goal.entries-preserved
entries-preserved c =
    c.in_ok-add_change.ensures
    ∙ ap₂ (λ front found. front ++ cons_option found []) c.entries.invariant c.change_of.ensures
    ∙ sym (changes_more (walk_seen c.args.seen.now) c.entries.e)

pub returns : goal.returns
returns c =
    let seen = c.args.seen.now in
    let all : c.entries.e ≡ length seen.tree.now =
    omega (arith, c.entries-test.false, c.len-e-end.ensures) in
    all_changes (walk_seen seen) c.entries.e _
    (all ∙ sym (entries_over (walk_in seen.walked.now) seen.tree.now (labels_listed seen.labels.now)
    c.requires.tree))
    c.entries.invariant
