use Rattle.std.proofs.Common.{[], ◌∷◌}
use Rattle.pattern_match.proofs.OpenParts.{spell_own, spelled_tree}
use Rattle.pattern_match.proofs.part.halves.Goals as goal

pub invariant_of-result : goal.invariant_of-result
invariant_of-result c =
    let first = c.requires.0 in
    let second = c.requires.1.0 in
    spell_own _ first (c.split_last_part.ensures second (first ∷ []) c.requires.1.1).0

pub invariant_of-result-2 : goal.invariant_of-result-2
invariant_of-result-2 c =
    let first = c.requires.0 in
    let second = c.requires.1.0 in
    spell_own _ second (c.split_last_part.ensures second (first ∷ []) c.requires.1.1).1

pub returns : goal.returns
returns c = λ first second spell.
    let parts = c.split_last_part.ensures second (first ∷ []) spell in
    (spelled_tree _ first parts.0, spelled_tree _ second parts.1)
