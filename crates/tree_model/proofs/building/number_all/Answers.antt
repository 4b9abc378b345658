use Rattle.std.proofs.Common.{◌∙◌, ap, ◌++◌, ◌∷◌, [], arith}
use Rattle.tree_model.proofs.KnownLemmas.{next_numbered}
use Rattle.tree_model.proofs.building.number_all.Goals as goal

pub records-preserved : goal.records-preserved
records-preserved c =
    next_numbered c.args.records.now c.records.place c.records.all.items c.push.new.self.items
    (omega (arith, c.records-test.true, c.len-place-end.ensures)) c.records.invariant
    (c.in_ok-push.ensures.items ∙ ap (λ x. c.records.all.items ++ x ∷ []) c.new.ensures)
