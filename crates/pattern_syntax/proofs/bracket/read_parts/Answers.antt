use Rattle.std.proofs.Common.{◌∙◌, sym, ◌==◌, arith}
use Rattle.std.proofs.lemmas.List.{take_rest, length-drop}
use Rattle.std.proofs.lemmas.Result.{err_from_is_err_and}
use Rattle.pattern_syntax.specs.ByteSet.{has_byte}
use Rattle.pattern_syntax.specs.Views.{part_of}
use Rattle.pattern_syntax.proofs.BracketLemmas.{parts_none, parts_end, parts_refused, parts_more}
use Rattle.pattern_syntax.proofs.bracket.read_parts.Goals as goal

pub returns-then-ends_set-clause-value : goal.returns-then-ends_set-clause-value
returns-then-ends_set-clause-value c =
    c.parts.invariant.rest ∙ parts_end c.parts.low (has_byte c.parts.set) c.parts.at c.args.text.now
    (omega arith) (sym c.ends_set.ensures ∙ c.if-ends_set.true)

pub returns-in_err-part-clause-value : goal.returns-in_err-part-clause-value
returns-in_err-part-clause-value c =
    let p = err_from_is_err_and c.from_residual.result c.from_residual.ensures.1 in
    rw (p.1, p.2) (c.parts.invariant.rest ∙ parts_refused c.parts.low (has_byte c.parts.set)
    c.parts.at c.args.text.now _ (omega arith) (sym c.ends_set.ensures ∙ c.if-ends_set.false)
    (rw take_rest at c.in_err-part.ensures.value))

pub parts-preserved : goal.parts-preserved
parts-preserved c =
    let h = rw take_rest at c.in_ok-part.ensures.within.1 in
    record {
      within = omega (arith, h, length-drop c.parts.at c.args.text.now);
      rest = c.parts.invariant.rest ∙ parts_more c.parts.low (has_byte c.parts.set)
          (has_byte c.union-set.result) c.parts.at c.args.text.now (part_of c.in_ok-part.part)
          (omega arith) (sym c.ends_set.ensures ∙ c.if-ends_set.false)
          (rw take_rest at c.in_ok-part.ensures.value) c.in_ok-part.ensures.within.0
          c.union-set.ensures;
    }

pub returns-clause-value : goal.returns-clause-value
returns-clause-value c = c.parts.invariant.rest ∙ parts_none (c.parts.at == 0) c.parts.low
    (has_byte c.parts.set) c.parts.at c.args.text.now (omega arith)
