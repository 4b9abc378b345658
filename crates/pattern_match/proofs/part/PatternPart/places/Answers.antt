use Rattle.std.proofs.Common.{◌∙◌, ap, []}
use Rattle.pattern_match.proofs.OpenParts.{seen_last}
use Rattle.pattern_match.proofs.part.PatternPart.places.Goals as goal

pub returns-in-Some : goal.returns-in-Some
returns-in-Some c =
    let h = c.in-Some.ensures.item in
    rw (← c.self.view_is)
    (c.from.ensures ∙ ap (λ s. s.1.1.0) (seen_last _ _ _ _ [] h.1 h.3.0 c.self.invariant))
