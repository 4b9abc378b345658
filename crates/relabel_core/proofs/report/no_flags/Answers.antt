use Rattle.std.proofs.Common.{◌∙◌, ap, ◌++◌, ◌∷◌, [], false}
use Rattle.std.proofs.lemmas.List.{replicate-append-replicate}
use Rattle.relabel_core.proofs.report.no_flags.Goals as goal

pub places-preserved : goal.places-preserved
places-preserved c = c.in_ok-push.ensures.items
    ∙ ap (λ flags. flags ++ false ∷ []) c.places.invariant
    ∙ replicate-append-replicate c.places.counter 1 false
