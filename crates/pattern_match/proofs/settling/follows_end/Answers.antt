use Rattle.std.proofs.Common.{sym, ◌∙◌, arith}
use Rattle.pattern_match.specs.Over.{operation_places}
use Rattle.pattern_match.proofs.SettledOver.{end_before, no_end_before}
use Rattle.pattern_match.proofs.settling.follows_end.Goals as goal

pub returns-then-ends_before-clause-value : goal.returns-then-ends_before-clause-value
returns-then-ends_before-clause-value c =
    sym (end_before (operation_places c.args.operations.now) c.args.marks.now c.args.q c.places.p
    (omega arith) (c.places.invariant.marked (omega arith))
    (sym c.ends_before.ensures.value ∙ c.if-ends_before.true))

pub returns-clause-value : goal.returns-clause-value
returns-clause-value c =
    sym (no_end_before (operation_places c.args.operations.now) c.args.marks.now c.args.q
    c.places.p (omega arith) c.places.invariant.none)
