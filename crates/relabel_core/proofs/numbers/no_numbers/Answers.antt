use Rattle.std.proofs.Common.{◌∙◌, ap, ◌++◌, ◌∷◌, []}
use Rattle.std.proofs.lemmas.List.{replicate-append-replicate}
use Rattle.relabel_core.specs.declared.numbers.TheConstants.{NONE}
use Rattle.relabel_core.proofs.numbers.no_numbers.Goals as goal

pub places-preserved : goal.places-preserved
places-preserved c = c.in_ok-push.ensures.items ∙ ap (λ numbers. numbers ++ NONE ∷ [])
    c.places.invariant ∙ replicate-append-replicate c.places.counter 1 NONE
