-- Counts of the entries that are names of groups whose labels change.
use Rattle.std.proofs.Common.{◌≡◌, ◌∙◌, sym, refl, ap, ap₂, ℕ, zero, suc, ◌+◌, ◌<◌, ◌≤◌, Bool, true}
use Rattle.std.proofs.Common.{false, ◌&&◌, List, [], ◌∷◌, ◌++◌, length, inl, inr, arith, add-one}
use Rattle.std.proofs.Common.{length-append}
use mir.Val.{bool_byte}
use Rattle.std.specs.Prelude.{nat_le, nat_lt}
use Rattle.std.proofs.lemmas.Bool.{and_parts, cases_Bool, cases_lt, le-leb, leb-true, lt-ltb}
use Rattle.std.proofs.lemmas.Bool.{ltb-true, and_from}
use Rattle.std.proofs.lemmas.List.{get_or_append_left}
use Rattle.std.proofs.Math.Seq.{get_or-append_seam}
use Rattle.std.specs.Cmp.{both_ways}
use Rattle.label_base.specs.Bounded.{all_numbers, any_below}
use Rattle.label_base.proofs.BoundedLemmas.{any_at, any_has, any_same}
use Rattle.tree_model.specs.Extents.{in_extent}
use Rattle.relabel_core.specs.Counts.{AreWalkCounts, changed_below, count_at}
use Rattle.relabel_core.specs.Walk.{Walk, walk_count, has_changed_name, is_changed_name, one_if}
use Rattle.relabel_core.proofs.NotedLemmas.{filtered_more}

pub byte_is_one : (b : Bool) → bool_byte b ≡ one_if b
byte_is_one true = refl
byte_is_one false = refl

pub at_most_one : (b : Bool) → one_if b ≤ 1
at_most_one true = omega arith
at_most_one false = omega arith

pub more_changed : (w : Walk) (n : ℕ) → changed_below w (n + 1) ≡ changed_below w n + one_if
    (is_changed_name w n)
more_changed w n = ap (λ m. changed_below w m) (add-one n)
    ∙ filtered_more (is_changed_name w) (all_numbers n) n

each_more : (w : Walk) (n changed : ℕ) (counts : List ℕ) → AreWalkCounts w n counts
    → changed ≡ changed_below w (n + 1)
    → (e : ℕ) → e ≤ n + 1 → count_at (counts ++ changed ∷ []) e ≡ changed_below w e
each_more w n changed counts old is e l =
    elim (cases_lt n e) [
      | inl lt ↦
          (let last : e ≡ length counts = omega (arith, l, lt, old.sized) in
          ap (λ i. count_at (counts ++ changed ∷ []) i) last ∙ get_or-append_seam counts changed []
          0 ∙ is
          ∙ ap (λ i. changed_below w i) {x = n + 1} {y = e} (omega (arith, l, lt)))
      | inr le ↦ get_or_append_left counts (changed ∷ []) 0 e (omega (arith, le, old.sized))
          ∙ old.each e le
    ]

pub more_counted : (w : Walk) (n changed : ℕ) (counts now : List ℕ) → AreWalkCounts w n counts
    → changed ≡ changed_below w (n + 1)
    → now ≡ counts ++ changed ∷ [] → AreWalkCounts w (n + 1) now
more_counted w n changed counts now old is made = rw (made) record {
  sized = length-append counts (changed ∷ []) ∙ ap (λ k. k + 1) old.sized;
  each = each_more w n changed counts old is;
}

-- ---- counts that rise

far : (w : Walk) (n m : ℕ) → n ≤ m → changed_below w n ≤ changed_below w m
far w n zero l = omega (arith, ap (λ k. changed_below w k) {x = n} {y = 0} (omega (arith, l)))
far w n (suc m) l =
    elim (cases_lt m n) [
      | inl lt ↦ omega
          (arith, ap (λ k. changed_below w k) {x = n} {y = suc m} (omega (arith, l, lt)))
      | inr le ↦ (let more = filtered_more (is_changed_name w) (all_numbers m) m in
          let before = far w n m le in omega (arith, more, before))
    ]

one_true : (b : Bool) → b ≡ true → one_if b ≡ 1
one_true true e = refl
one_true false e = absurd cc

-- a name between two numbers makes the counts rise
rises : (w : Walk) (d e end : ℕ) → d ≤ e → e < end → is_changed_name w e ≡ true
    → changed_below w d < changed_below w end
rises w d e end l m h =
    let more = more_changed w e in
    let one = one_true (is_changed_name w e) h in
    let front = far w d e l in
    let behind = far w (e + 1) end (omega (arith, m)) in
    omega (arith, more, one, front, behind)

one_false : (b : Bool) → b ≡ false → one_if b ≡ 0
one_false false e = refl
one_false true e = absurd cc

-- and where they rise there is one
between : (w : Walk) (d end : ℕ) → d ≤ end → changed_below w d < changed_below w end → (e : ℕ)
    × (d ≤ e) × (e < end) × (is_changed_name w e ≡ true)
between w d zero l h =
    absurd (omega (arith, h, ap (λ k. changed_below w k) {x = d} {y = 0} (omega (arith, l))))
between w d (suc end) l h =
    elim (cases_lt end d) [
      | inl lt ↦ absurd
          (omega (
            arith,
            h,
            ap (λ k. changed_below w k) {x = d} {y = suc end}
                (omega (arith, l, lt)),
          ))
      | inr le ↦
          elim (cases_Bool (is_changed_name w end)) [
            | inl here ↦ (end, le, omega arith, here)
            | inr not_here ↦
                (let more = filtered_more (is_changed_name w) (all_numbers end) end in
                let none = one_false (is_changed_name w end) not_here in
                let found = between w d end le (omega (arith, h, more, none)) in
                (found.0, found.1, omega (arith, found.2), found.3))
          ]
    ]

abbrev is_within : Walk → ℕ → ℕ → ℕ → Bool
is_within w d end e = (nat_le d e && nat_lt e end) && is_changed_name w e

pub rise_is : (w : Walk) (d end : ℕ) (counts : List ℕ) → d ≤ end → end ≤ walk_count w
    → AreWalkCounts w (walk_count w) counts
    → ((e : ℕ) → e < walk_count w → in_extent w.entries d e ≡ (nat_le d e && nat_lt e end))
    → nat_lt (count_at counts d) (count_at counts end) ≡ has_changed_name w d
unfolding has_changed_name
rise_is w d end counts l m counted run =
    let first : count_at counts d ≡ changed_below w d = counted.each d (omega (arith, l, m)) in
    let last : count_at counts end ≡ changed_below w end = counted.each end m in
    ap₂ (λ a b. nat_lt a b) first last
    ∙ both_ways (nat_lt (changed_below w d) (changed_below w end))
    (any_below (walk_count w) (is_within w d end))
    (λ t.
    let found = between w d end l (ltb-true (changed_below w d) (changed_below w end) t) in
    any_at (walk_count w) (is_within w d end) found.0 (omega (arith, found.2, m))
    (and_from (nat_le d found.0 && nat_lt found.0 end) (is_changed_name w found.0)
    (and_from (nat_le d found.0) (nat_lt found.0 end) (le-leb d found.0 found.1)
    (lt-ltb found.0 end found.2)) found.3))
    (λ t.
    let found = any_has (walk_count w) (is_within w d end) t in
    let parts = and_parts (nat_le d found.0 && nat_lt found.0 end) (is_changed_name w found.0)
    found.2 in
    let inside = and_parts (nat_le d found.0) (nat_lt found.0 end) parts.0 in
    lt-ltb (changed_below w d) (changed_below w end)
    (rises w d found.0 end (leb-true d found.0 inside.0) (ltb-true found.0 end inside.1) parts.1))
    ∙ sym (any_same (walk_count w) (λ e. in_extent w.entries d e && is_changed_name w e)
    (is_within w d end) (λ e within. ap (λ b. b && is_changed_name w e) (run e within)))
