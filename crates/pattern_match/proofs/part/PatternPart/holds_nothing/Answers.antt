use Rattle.std.proofs.Common.{ap, []}
use Rattle.pattern_match.specs.Operations.{operations_tree}
use Rattle.pattern_match.proofs.OpenParts.{seen_last}
use Rattle.pattern_match.proofs.part.PatternPart.holds_nothing.Goals as goal

pub returns-in-Some : goal.returns-in-Some
returns-in-Some c =
    let h = c.in-Some.ensures.item in
    let tree = operations_tree c.self.inside.operations.now in
    rw (← c.self.view_is)
    (ap (λ s. s.1.1.1) (seen_last _ _ _ tree [] h.1 h.3.0 c.self.invariant))
