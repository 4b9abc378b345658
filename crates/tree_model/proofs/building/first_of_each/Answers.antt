use Rattle.std.proofs.Common.{◌∙◌, ◌++◌, ◌∷◌, [], ap, sym}
use Rattle.tree_model.proofs.DoubledSoFar.{again, other}
use Rattle.tree_model.proofs.building.first_of_each.Goals as goal
use Rattle.tree_model.proofs.building.first_of_each.Goals.{then-is_same_place}
use Rattle.tree_model.proofs.building.first_of_each.Goals.{else-is_same_place+in_ok-push}

pub records-preserved : goal.records-preserved
records-preserved c =
    elim c.if-is_same_place.branch [
      | then-is_same_place w ↦
          again c.records.places.items c.records.head.now c.records.doubled _ c.args.sorted.now
          c.records.x-index c.x-item.result _ _ _
          c.records.invariant c.records-test.true c.x-item.is (sym w.if-is_same_place.ensures)
          (ap (λ p. p.items) w.places-is) (ap (λ h. h.now) w.head-is)
          (w.doubled-is ∙ w.note-doubled.ensures)
      | else-is_same_place+in_ok-push w ↦
          other c.records.places.items c.records.head.now c.records.doubled _ c.args.sorted.now
          c.records.x-index c.x-item.result _ _ _
          c.records.invariant c.records-test.true c.x-item.is (sym w.if-is_same_place.ensures)
          (ap (λ p. p.items) w.places-is ∙ w.in_ok-push.ensures.items
          ∙ ap (λ n. c.records.places.items ++ n ∷ []) w.place_of.ensures)
          (ap (λ h. h.now) w.head-is) w.doubled-is
    ]
