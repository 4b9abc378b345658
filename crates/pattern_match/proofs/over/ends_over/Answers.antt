use Rattle.std.proofs.Common.{◌+◌, ◌*◌, length, refl, sym, ◌∙◌}
use Rattle.pattern_syntax.specs.Reading.{positions}
use Rattle.pattern_match.specs.Passes.{holds_nothing}
use Rattle.pattern_match.specs.States.{bit}
use Rattle.pattern_match.proofs.WholePasses.{ended_over, start_within, at_first, at_last, at_none}
use Rattle.pattern_match.proofs.over.ends_over.Goals as goal

pub has_bit-requires : goal.has_bit-requires
has_bit-requires c = start_within c.args.operations.now (length c.args.marks.now) c.requires
    c.of-part.result c.places.result c.of-part.ensures c.places.ensures

pub returns-then-is_end : goal.returns-then-is_end
returns-then-is_end c =
    at_first c.pass-is_end.result (bit c.args.marks.now (64 * 0 + positions c.of-part.result))
    (holds_nothing c.of-part.result) _
    (ended_over c.args.operations.now c.args.marks.now c.of-part.result
    (positions c.of-part.result) c.pass-is_end.result c.requires.are
    c.of-part.ensures refl c.pass-is_end.ensures.ends) c.if-is_end.true

pub returns-then-has_bit : goal.returns-then-has_bit
returns-then-has_bit c =
    c.holds_nothing.ensures ∙ at_last c.pass-is_end.result _ (holds_nothing c.of-part.result) _
    (ended_over c.args.operations.now c.args.marks.now c.of-part.result c.places.result
    c.pass-is_end.result c.requires.are c.of-part.ensures c.places.ensures
    c.pass-is_end.ensures.ends) c.if-is_end.false (sym c.has_bit.ensures ∙ c.if-has_bit.true)

pub returns-else-has_bit : goal.returns-else-has_bit
returns-else-has_bit c =
    c.has_bit.ensures ∙ at_none c.pass-is_end.result _ (holds_nothing c.of-part.result) _
    (ended_over c.args.operations.now c.args.marks.now c.of-part.result c.places.result
    c.pass-is_end.result c.requires.are c.of-part.ensures c.places.ensures
    c.pass-is_end.ensures.ends) c.if-is_end.false (sym c.has_bit.ensures ∙ c.if-has_bit.false)
