use Rattle.std.proofs.Common.{◌≡◌, ◌∙◌, sym, ap, ap₂, ◌++◌, ◌∷◌, [], add-one, arith}
use Rattle.std.specs.Prelude.{map}
use Rattle.std.proofs.lemmas.List.{map-append}
use Rattle.label_base.specs.Bounded.{all_numbers}
use Rattle.tree_model.specs.Groups.{groups_in}
use Rattle.relabel_core.specs.Answer.{walk_in}
use Rattle.relabel_core.specs.Walk.{new_label}
use Rattle.relabel_core.proofs.next.next_labels.Goals as goal

pub groups-preserved : goal.groups-preserved
groups-preserved c =
    let w = walk_in c.args.walked.now in
    let g = c.groups.g in
    c.in_ok-push.ensures.ok
    ∙ ap₂ (λ labels label. labels ++ label ∷ []) c.groups.invariant
    (c.in_ok-label_of.ensures ∙ c.new_label.ensures)
    ∙ sym (map-append (new_label w) (all_numbers g) (g ∷ []))
    ∙ ap (λ n. map (new_label w) (all_numbers n)) (sym (add-one g))

pub returns : goal.returns
returns c =
    let w = walk_in c.args.walked.now in
    let all : c.groups.g ≡ groups_in w.entries =
    omega (arith, c.groups-test.false, c.groups-g-end.ensures) in
    c.groups.invariant ∙ ap (λ n. map (new_label w) (all_numbers n)) all
