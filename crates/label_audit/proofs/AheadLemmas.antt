-- Looking ahead for labels that change.
use Rattle.std.proofs.Common.{◌≡◌, ◌∙◌, sym, ap, ℕ, ◌+◌, ◌<◌, ◌≤◌, ◌&&◌, true, false, inl, inr}
use Rattle.std.proofs.Common.{arith, subst}
use Rattle.std.specs.Prelude.{nat_le, nat_lt}
use Rattle.std.proofs.lemmas.Bool.{and_from, and_left, and_right, cases_lt, le-leb, le-ltb, lt-leb}
use Rattle.std.proofs.lemmas.Bool.{lt-ltb}
use Rattle.label_base.proofs.BoundedLemmas.{any_at, none_from}
use Rattle.tree_model.specs.Extents.{in_extent}
use Rattle.relabel_core.specs.Swept.{SkipEndsAt}
use Rattle.relabel_core.specs.Walk.{Walk, walk_count, has_changed_name, is_changed_name}
use Rattle.relabel_core.proofs.CoveredLemmas.{covers_none}
use Rattle.label_audit.specs.Ahead.{IsAhead}
use Rattle.label_audit.specs.declared.ahead.Ahead.{Ahead}
use Rattle.relabel_core.specs.declared.swept.Cursor.{Cursor}

-- nothing was looked at
pub none_ahead : (w : Walk) → IsAhead w 0 (record { clear = record { entry = 0; end = 0 } })
none_ahead w = record { covers = covers_none w; clear = λ e a b. absurd (omega (arith, b)) }

-- from a later entry on
pub ahead_on : (w : Walk) (d : ℕ) (ahead : Ahead) → IsAhead w d ahead → IsAhead w (d + 1) ahead
ahead_on w d ahead old =
    record { covers = old.covers; clear = λ e a b. old.clear e (omega (arith, a)) b }

-- from an entry on where one has looked less far
pub ahead_from : (w : Walk) (at : Cursor) → SkipEndsAt w at.entry at.end
    → IsAhead w at.entry (record { clear = at })
ahead_from w at covers =
    record { covers = covers; clear = λ e a b. absurd (omega (arith, a, b)) }

-- one entry more
pub ahead_more : (w : Walk) (d end : ℕ) (ahead now : Ahead) → IsAhead w d ahead
    → is_changed_name w ahead.clear.entry ≡ false → SkipEndsAt w (ahead.clear.entry + 1) end
    → now ≡ record { clear = record { entry = ahead.clear.entry + 1; end = end } }
    → IsAhead w d now
ahead_more w d end ahead now old same covers is =
    subst (λ (a : Ahead). IsAhead w d a) (sym is) (record {
      covers = covers;
      clear = λ e a b. elim (cases_lt e ahead.clear.entry) [
        | inl lt ↦ old.clear e a lt
        | inr ge ↦ ap (is_changed_name w) {x = e} {y = ahead.clear.entry} (omega (arith, b, ge))
            ∙ same
      ];
    })

-- one that changes is at or below the directory
pub found_changed : (w : Walk) (d e stop : ℕ) → stop ≤ walk_count w
    → ((x : ℕ) → x < walk_count w → in_extent w.entries d x ≡ (nat_le d x && nat_lt x stop))
    → d ≤ e → e < stop → is_changed_name w e ≡ true → true ≡ has_changed_name w d
unfolding has_changed_name
found_changed w d e stop within run from before changed =
    let here : e < walk_count w = omega (arith, before, within) in
    sym (any_at (walk_count w) (λ x. in_extent w.entries d x && is_changed_name w x) e here
    (and_from (in_extent w.entries d e) (is_changed_name w e)
    (run e here ∙ and_from (nat_le d e) (nat_lt e stop) (le-leb d e from) (lt-ltb e stop before))
    changed))

-- where one has looked to the end, none does
pub none_changed : (w : Walk) (d stop : ℕ) (ahead : Ahead)
    → ((x : ℕ) → x < walk_count w → in_extent w.entries d x ≡ (nat_le d x && nat_lt x stop))
    → IsAhead w d ahead → stop ≤ ahead.clear.entry → false ≡ has_changed_name w d
unfolding has_changed_name
none_changed w d stop ahead run old past =
    sym (none_from (walk_count w) (λ x. in_extent w.entries d x && is_changed_name w x) (λ e l.
    elim (cases_lt e stop) [
      | inl lt ↦ elim (cases_lt e d) [
        | inl before ↦ and_left (in_extent w.entries d e) (is_changed_name w e)
            (run e l ∙ and_left (nat_le d e) (nat_lt e stop) (before_not d e before))
        | inr from ↦ and_right (in_extent w.entries d e) (is_changed_name w e)
            (old.clear e from (omega (arith, lt, past)))
      ]
      | inr ge ↦ and_left (in_extent w.entries d e) (is_changed_name w e)
          (run e l ∙ and_right (nat_le d e) (nat_lt e stop) (le-ltb e stop ge))
    ]))
  where
    before_not : (d e : ℕ) → e < d → nat_le d e ≡ false
    before_not d e l = lt-leb d e l
