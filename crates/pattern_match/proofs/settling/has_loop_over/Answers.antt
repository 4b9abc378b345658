use Rattle.std.proofs.Common.{refl, sym, ◌∙◌, arith}
use Rattle.pattern_match.specs.Over.{operation_places}
use Rattle.pattern_match.proofs.SettledOver.{loop_found, none_ends, none_found}
use Rattle.pattern_match.proofs.settling.has_loop_over.Goals as goal

pub returns-then-not-ends_over-clause-value : goal.returns-then-not-ends_over-clause-value
returns-then-not-ends_over-clause-value c = (
  λ e. cc,
  λ h. absurd (none_ends (operation_places c.args.operations.now) c.args.marks.now
      (sym c.ends_over.ensures ∙ c.if-not-ends_over.true) h),
)

pub returns-then-is_loop_behind-clause-value : goal.returns-then-is_loop_behind-clause-value
returns-then-is_loop_behind-clause-value c = (
  λ _. loop_found (operation_places c.args.operations.now) c.args.marks.now c.places.q
      (sym c.is_loop_behind.ensures.value ∙ c.if-is_loop_behind.true),
  λ _. refl,
)

pub returns-clause-value : goal.returns-clause-value
returns-clause-value c = (
  λ e. cc,
  λ h. absurd (none_found (operation_places c.args.operations.now) c.args.marks.now
      c.go_over.new.to c.places.q (omega arith) c.go_over.ensures.bits c.places.invariant.none h),
)
