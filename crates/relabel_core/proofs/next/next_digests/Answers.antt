use Rattle.std.proofs.Common.{◌≡◌, ◌∙◌, sym, ap, ap₂, ◌++◌, ◌∷◌, [], add-one, arith}
use Rattle.std.specs.Prelude.{map}
use Rattle.std.proofs.lemmas.List.{map-append}
use Rattle.label_base.specs.Bounded.{all_numbers}
use Rattle.relabel_core.specs.Answer.{walk_in}
use Rattle.relabel_core.specs.Walk.{walk_count, digest_after, digests}
use Rattle.relabel_core.proofs.NextLemmas.{only_directories}
use Rattle.relabel_core.proofs.next.next_digests.Goals as goal

pub entries-preserved : goal.entries-preserved
entries-preserved c =
    let w = walk_in c.args.walked.now in
    let d = c.entries.d in
    c.in_ok-push.ensures.ok
    ∙ ap₂ (λ row digest. row ++ digest ∷ []) c.entries.invariant
    (c.in_ok-digest_at.ensures ∙ ap (λ v. digest_after v d) c.in_ok-after.ensures)
    ∙ sym (map-append (digest_after w) (all_numbers d) (d ∷ []))
    ∙ ap (λ n. map (digest_after w) (all_numbers n)) (sym (add-one d))

pub returns-clause-digests : goal.returns-clause-digests
returns-clause-digests c =
    let w = walk_in c.args.walked.now in
    c.entries.invariant ∙ ap (λ n. map (digest_after w) (all_numbers n)) {x = c.entries.d}
    {y = walk_count w} (omega (arith, c.entries-test.false, c.len-d-end.ensures))

pub returns-clause-directories : goal.returns-clause-directories
returns-clause-directories c = λ none e other.
    let w = walk_in c.args.walked.now in
    let all : c.entries.row ≡ digests w =
    c.entries.invariant ∙ ap (λ n. map (digest_after w) (all_numbers n)) {x = c.entries.d}
    {y = walk_count w} (omega (arith, c.entries-test.false, c.len-d-end.ensures)) in
    only_directories w none c.entries.row all e other
