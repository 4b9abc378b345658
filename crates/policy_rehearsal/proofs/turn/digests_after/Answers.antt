use Rattle.std.proofs.Common.{◌≡◌, ◌∙◌, sym, ap, ap₂, ◌++◌, ◌∷◌, [], add-one, length, arith}
use Rattle.std.specs.Prelude.{map}
use Rattle.std.proofs.lemmas.List.{map-append}
use Rattle.label_base.specs.Bounded.{all_numbers}
use Rattle.relabel_core.specs.Answer.{walk_in}
use Rattle.relabel_core.specs.Walk.{digest_after}
use Rattle.policy_rehearsal.specs.Seen.{labels_listed, walk_seen}
use Rattle.policy_rehearsal.proofs.TurnLemmas.{entries_over}
use Rattle.policy_rehearsal.proofs.turn.digests_after.Goals as goal

pub entries-preserved : goal.entries-preserved
entries-preserved c =
    let w = walk_seen c.args.seen.now in
    let d = c.entries.d in
    c.in_ok-push.ensures.ok
    ∙ ap₂ (λ row digest. row ++ digest ∷ []) c.entries.invariant c.in_ok-digest_at.ensures
    ∙ sym (map-append (digest_after w) (all_numbers d) (d ∷ []))
    ∙ ap (λ n. map (digest_after w) (all_numbers n)) (sym (add-one d))

pub returns : goal.returns
returns c =
    let seen = c.args.seen.now in
    let all : c.entries.d ≡ length seen.tree.now =
    omega (arith, c.entries-test.false, c.len-d-end.ensures) in
    c.entries.invariant
    ∙ ap (λ n. map (digest_after (walk_seen seen)) (all_numbers n))
    (all ∙ sym (entries_over (walk_in seen.walked.now) seen.tree.now (labels_listed seen.labels.now)
    c.requires.seen.tree))
