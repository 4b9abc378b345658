use Rattle.std.proofs.Common.{sym, ◌∙◌, ap}
use Rattle.pattern_syntax.specs.Tree.{Both, Either, Repeat}
use Rattle.pattern_match.specs.Operations.{operations_tree}
use Rattle.pattern_match.proofs.OpenParts.{IsOfTwo, IsRepeated, made_again, made_of, spell_own}
use Rattle.pattern_match.proofs.OpenParts.{spelled_tree}
use Rattle.pattern_match.proofs.part.PatternPart.shape.Goals as goal

pub halves-first-requires : goal.halves-first-requires
halves-first-requires c =
    let m : IsOfTwo Both c.in-Some.before.now (operations_tree c.self.inside.operations.now) =
    made_of _ _ _ _ _ c.in-Some.ensures.cases.0 c.in-Both.is c.self.invariant in
    (m.first, (m.second, m.spell))

pub halves-left-requires : goal.halves-left-requires
halves-left-requires c =
    let m : IsOfTwo Either c.in-Some.before.now (operations_tree c.self.inside.operations.now) =
    made_of _ _ _ _ _ c.in-Some.ensures.cases.0 c.in-Either.is c.self.invariant in
    (m.first, (m.second, m.spell))

pub invariant_of-piece : goal.invariant_of-piece
invariant_of-piece c =
    let m : IsRepeated c.in-Repeat.least c.in-Repeat.most c.in-Some.before.now
    (operations_tree c.self.inside.operations.now) =
    made_of _ _ _ _ _ c.in-Some.ensures.cases.0 c.in-Repeat.is c.self.invariant in
    spell_own _ m.piece m.spell

pub returns-in-Byte : goal.returns-in-Byte
returns-in-Byte c =
    rw (← c.self.view_is)
    (sym (made_of _ _ _ _ _ c.in-Some.ensures.cases.0 c.in-Byte.is c.self.invariant))

pub returns-in-Set : goal.returns-in-Set
returns-in-Set c =
    rw (← c.self.view_is)
    (sym (made_of _ _ _ _ _ c.in-Some.ensures.cases.0 c.in-Set.is c.self.invariant))

pub returns-in-Nothing : goal.returns-in-Nothing
returns-in-Nothing c =
    rw (← c.self.view_is)
    (sym (made_of _ _ _ _ _ c.in-Some.ensures.cases.0 c.in-Nothing.is c.self.invariant))

pub returns-in-Both : goal.returns-in-Both
returns-in-Both c =
    let m : IsOfTwo Both c.in-Some.before.now (operations_tree c.self.inside.operations.now) =
    made_of _ _ _ _ _ c.in-Some.ensures.cases.0 c.in-Both.is c.self.invariant in
    rw (← c.self.view_is)
    (made_again Both _ _ _ _ m (c.halves-first.ensures m.first m.second m.spell))

pub returns-in-Either : goal.returns-in-Either
returns-in-Either c =
    let m : IsOfTwo Either c.in-Some.before.now (operations_tree c.self.inside.operations.now) =
    made_of _ _ _ _ _ c.in-Some.ensures.cases.0 c.in-Either.is c.self.invariant in
    rw (← c.self.view_is)
    (made_again Either _ _ _ _ m (c.halves-left.ensures m.first m.second m.spell))

pub returns-in-Repeat : goal.returns-in-Repeat
returns-in-Repeat c =
    let m : IsRepeated c.in-Repeat.least c.in-Repeat.most c.in-Some.before.now
    (operations_tree c.self.inside.operations.now) =
    made_of _ _ _ _ _ c.in-Some.ensures.cases.0 c.in-Repeat.is c.self.invariant in
    rw (← c.self.view_is)
    (ap (λ t. Repeat c.in-Repeat.least c.in-Repeat.most t) (spelled_tree _ m.piece m.spell)
    ∙ sym m.tree)
