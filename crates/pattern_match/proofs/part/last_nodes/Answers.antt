use Rattle.std.proofs.Common.{ap}
use Rattle.pattern_match.proofs.OpenParts.{not_empty, seen_last}
use Rattle.pattern_match.proofs.part.last_nodes.Goals as goal

pub returns-in-Some : goal.returns-in-Some
returns-in-Some c =
    let h = c.in-Some.ensures.item in
    λ t trees spell. ap (λ s. s.1.0) (seen_last _ _ _ t trees h.1 h.3.0 spell)

pub returns-in-None : goal.returns-in-None
returns-in-None c =
    λ t trees spell. absurd (not_empty _ t trees c.in-None.ensures.item.3 spell)
