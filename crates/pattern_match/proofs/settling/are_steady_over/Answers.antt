use Rattle.std.proofs.Common.{◌≡◌, ℕ, refl, sym, ◌∙◌, arith}
use Rattle.std.specs.Prelude.{slice_get}
use Rattle.std.proofs.lemmas.Bool.Decides.{not_from_Decides}
use Rattle.pattern_match.specs.Over.{operation_places}
use Rattle.pattern_match.specs.States.{bit}
use Rattle.pattern_match.specs.Tables.{leads}
use Rattle.pattern_match.proofs.SettledOver.{all_steady, marked_more, row_same, same_row}
use Rattle.pattern_match.proofs.SettledOver.{steady_follow}
use Rattle.pattern_match.proofs.settling.are_steady_over.Goals as goal

pub returns-then-not-is_row-clause-value : goal.returns-then-not-is_row-clause-value
returns-then-not-is_row-clause-value c = (
  λ e. cc,
  λ h. absurd (not_from_Decides c.is_row.result c.is_row.ensures c.if-not-is_row.true
      (row_same c.args.marks.now c.go_over.new.to (λ q. c.go_over.ensures.bits q
      ∙ steady_follow (operation_places c.args.operations.now) c.args.marks.now h q))),
)

pub returns-then-not-leads_to_marks-clause-value :
    goal.returns-then-not-leads_to_marks-clause-value
returns-then-not-leads_to_marks-clause-value c = (
  λ e. cc,
  λ h. absurd (not_from_Decides c.leads_to_marks.result c.leads_to_marks.ensures.value
      c.if-not-leads_to_marks.true (h c.places.p (c.places.invariant.marked (omega arith))).same),
)

pub places-preserved : goal.places-preserved
places-preserved c = record {
  bound = c.next_marked-p-in-places.ensures.most;
  marked = c.next_marked-p-in-places.ensures.marked;
  same = marked_more c.args.marks.now (λ k. (q : ℕ)
      → leads (slice_get (operation_places c.args.operations.now) k) q ≡ bit c.args.marks.now q)
      c.places.p c.next_marked-p-in-places.result c.places.invariant.same
      (c.leads_to_marks.ensures.value.0 c.if-not-leads_to_marks.false)
      c.next_marked-p-in-places.ensures.none;
}

pub returns-clause-value : goal.returns-clause-value
returns-clause-value c = (
  λ _. all_steady (operation_places c.args.operations.now) c.args.marks.now c.places.p
      (omega arith) (λ q. sym (same_row c.args.marks.now c.go_over.new.to (omega arith)
      (c.is_row.ensures.0 c.if-not-is_row.false) q) ∙ c.go_over.ensures.bits q)
      c.places.invariant.same,
  λ _. refl,
)
