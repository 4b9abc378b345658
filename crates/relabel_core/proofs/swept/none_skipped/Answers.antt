use Rattle.std.proofs.Common.{◌∙◌, ap, ◌++◌, ◌∷◌, []}
use Rattle.std.proofs.lemmas.List.{replicate-append-replicate}
use Rattle.relabel_core.specs.declared.swept.Skip.TheVariants.{Not}
use Rattle.relabel_core.proofs.swept.none_skipped.Goals as goal

pub places-preserved : goal.places-preserved
places-preserved c = c.in_ok-push.ensures.items ∙ ap (λ skips. skips ++ Not ∷ []) c.places.invariant
    ∙ replicate-append-replicate c.places.counter 1 Not
