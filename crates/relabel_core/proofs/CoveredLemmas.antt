-- Whether an entry is skipped, and what is skipped behind it, by the directories before it.
use Rattle.std.proofs.Common.{◌≡◌, ◌∙◌, sym, refl, ap, ap₂, ℕ, zero, suc, ◌+◌, ◌<◌, ◌≤◌, ◌==◌, ◌&&◌}
use Rattle.std.proofs.Common.{◌||◌, Bool, true, false, not, inl, inr, arith, if◌then◌else◌, eq-eqb}
use Rattle.std.proofs.Common.{ne_eqb, add-one}
use Rattle.std.specs.Prelude.{nat_le, nat_lt}
use Rattle.std.proofs.Math.Bool.{or-false}
use Rattle.std.proofs.lemmas.Bool.{and_left, and_parts, and_right, cases_eq, cases_lt}
use Rattle.std.proofs.lemmas.Bool.{false_from_ne_true, le-leb, le-ltb, lt-ltb}
use Rattle.label_base.specs.Bounded.{any_below}
use Rattle.label_base.proofs.BoundedLemmas.{any_at, any_has, any_same}
use Rattle.tree_model.specs.Extents.{in_extent}
use Rattle.tree_model.specs.Tree.{ByPath}
use Rattle.tree_model.proofs.ExtentLemmas.{in_behind, in_chain, in_itself}
use Rattle.relabel_core.specs.Swept.{SkipEndsAt, is_covered, is_not, skip_of}
use Rattle.relabel_core.specs.Walk.{Walk, walk_count, is_skipped, is_skipped_first, skippable}
use Rattle.relabel_core.specs.declared.swept.Skip.{Skip}
use Rattle.relabel_core.specs.declared.swept.Skip.TheVariants.{Not, First, Below}

-- ---- tests

and_true : (a b : Bool) → b ≡ true → (a && b) ≡ a
and_true true true h = refl
and_true false b h = refl
and_true true false h = absurd cc

-- a test that holds only where another one does adds nothing to it
absorbed : (a b : Bool) → (b ≡ true → a ≡ true) → (a || b) ≡ a
absorbed true b h = refl
absorbed false true h = sym (h refl)
absorbed false false h = refl

-- numbers from a place on that don't pass don't count
any_shrinks : (n k : ℕ) (p : ℕ → Bool) → k ≤ n → ((j : ℕ) → k ≤ j → j < n → p j ≡ false)
    → any_below n p ≡ any_below k p
any_shrinks zero k p l h = let same : zero ≡ k = omega (arith, l) in ap (λ m. any_below m p) same
any_shrinks (suc n) k p l h =
    elim (cases_lt n k) [
      | inl lt ↦ (let same : suc n ≡ k = omega (arith, l, lt) in ap (λ m. any_below m p) same)
      | inr ge ↦ ap (λ b. any_below n p || b) (h n ge (omega arith)) ∙ or-false (any_below n p)
          ∙ any_shrinks n k p ge (λ j a b. h j a (omega (arith, b)))
    ]

-- ---- whether an entry is skipped

-- by whether it may be skipped itself, and whether it is below a skipped one
shown : Bool → Bool → Skip
shown s c = if s && not c then First else if c || s then Below else Not

shown_below : (s c : Bool) → c ≡ true → shown s c ≡ Below
unfolding shown
shown_below true true h = refl
shown_below false true h = refl
shown_below s false h = absurd cc

shown_first : (s c : Bool) → s ≡ true → c ≡ false → shown s c ≡ First
unfolding shown
shown_first true false h k = refl
shown_first false c h k = absurd cc
shown_first true true h k = absurd cc

shown_not : (s c : Bool) → s ≡ false → c ≡ false → shown s c ≡ Not
unfolding shown
shown_not false false h k = refl
shown_not true c h k = absurd cc
shown_not false true h k = absurd cc

shown_skips : (s c : Bool) → not (is_not (shown s c)) ≡ (c || s)
unfolding shown
shown_skips true true = refl
shown_skips true false = refl
shown_skips false true = refl
shown_skips false false = refl

run_behind : (e x end : ℕ) → e ≤ x → (nat_le e x && nat_lt x end) ≡ nat_lt x end
run_behind e x end l = ap (λ b. b && nat_lt x end) (le-leb e x l)

-- an entry that one has passed: whether it is skipped, and where what is skipped ends behind it
pub record IsPassed (w : Walk) (e : ℕ) (skip : Skip) (end : ℕ) : Type 0 where
  pub skip_is : skip ≡ skip_of w e
  pub covers : SkipEndsAt w (e + 1) end

module _ (w : Walk) (up : ByPath w.entries) where
  -- an entry is below none behind it
  not_behind : (e d : ℕ) → e < d → d < walk_count w → in_extent w.entries d e ≡ false
  not_behind e d l m =
      false_from_ne_true (in_extent w.entries d e)
      (λ h. let from = in_behind w.entries up d e m h in omega (arith, from, l))

  skipped_at : (e : ℕ) → e < walk_count w → is_skipped w e ≡ (is_covered w e e || skippable w e)
  unfolding is_skipped
  skipped_at e l =
      any_shrinks (walk_count w) (suc e) (λ d. skippable w d && in_extent w.entries d e)
      (omega (arith, l))
      (λ d a b. and_right (skippable w d) (in_extent w.entries d e)
      (not_behind e d (omega (arith, a)) b))
      ∙ ap (λ b. is_covered w e e || b)
      (and_true (skippable w e) (in_extent w.entries e e) (in_itself w.entries up e))

  not_other : (e d : ℕ) → e ≤ d → d < walk_count w
      → (skippable w d && in_extent w.entries d e && not (d == e)) ≡ false
  not_other e d l m =
      elim (cases_eq d e) [
        | inl same ↦ and_right (skippable w d && in_extent w.entries d e) (not (d == e))
            (ap not (eq-eqb d e same))
        | inr differ ↦
            and_left (skippable w d && in_extent w.entries d e) (not (d == e))
            (and_right (skippable w d) (in_extent w.entries d e)
            (not_behind e d (omega (arith, l, differ)) m))
      ]

  first_at : (e : ℕ) → e < walk_count w → is_skipped_first w e
      ≡ (skippable w e && not (is_covered w e e))
  unfolding is_skipped_first
  first_at e l =
      ap (λ b. skippable w e && not b)
      (any_shrinks (walk_count w) e (λ d. skippable w d && in_extent w.entries d e && not (d == e))
      (omega (arith, l)) (λ d a b. not_other e d a b)
      ∙ any_same e (λ d. skippable w d && in_extent w.entries d e && not (d == e))
      (λ d. skippable w d && in_extent w.entries d e)
      (λ d a. and_true (skippable w d && in_extent w.entries d e) (not (d == e))
      (ap not (ne_eqb d e (λ s. omega (arith, a, s))))))

  skip_shown : (e : ℕ) → e < walk_count w → skip_of w e ≡ shown (skippable w e) (is_covered w e e)
  unfolding shown
  skip_shown e l = ap₂ (λ f s. if f then First else if s then Below else Not) (first_at e l)
      (skipped_at e l)

  pub skipped_is : (e : ℕ) (skip : Skip) → e < walk_count w → skip ≡ skip_of w e
      → not (is_not skip) ≡ is_skipped w e
  skipped_is e skip l is =
      ap (λ s. not (is_not s)) (is ∙ skip_shown e l)
      ∙ shown_skips (skippable w e) (is_covered w e e) ∙ sym (skipped_at e l)

  -- ---- what is covered behind an entry

  one_more : (e x : ℕ) → is_covered w (e + 1) x
      ≡ (is_covered w e x || (skippable w e && in_extent w.entries e x))
  one_more e x = ap (λ m. is_covered w m x) (add-one e)

  -- what is below an entry that is below a skipped one is below that one
  covered_chain : (e x : ℕ) → is_covered w e e ≡ true → (skippable w e && in_extent w.entries e x)
      ≡ true → is_covered w e x ≡ true
  covered_chain e x c h =
      let above = any_has e (λ d. skippable w d && in_extent w.entries d e) c in
      let parts = and_parts (skippable w above.0) (in_extent w.entries above.0 e) above.2 in
      let here = and_parts (skippable w e) (in_extent w.entries e x) h in
      any_at e (λ d. skippable w d && in_extent w.entries d x) above.0 above.1
      (and_true (skippable w above.0) (in_extent w.entries above.0 x)
      (in_chain w.entries up above.0 e x parts.1 here.1) ∙ parts.0)

  -- ---- one entry more

  pub passed_below : (e end : ℕ) → SkipEndsAt w e end → e < walk_count w → e < end
      → IsPassed w e Below end
  passed_below e end old l below =
      let covered : is_covered w e e ≡ true = old e (omega arith) l ∙ lt-ltb e end below in
      record {
        skip_is = sym (skip_shown e l ∙ shown_below (skippable w e) (is_covered w e e) covered);
        covers = λ x a b.
            one_more e x
            ∙ absorbed (is_covered w e x) (skippable w e && in_extent w.entries e x)
            (covered_chain e x covered)
            ∙ old x (omega (arith, a)) b;
      }

  pub passed_over : (e end extent : ℕ) → SkipEndsAt w e end → e < walk_count w → end ≤ e
      → skippable w e ≡ true
      → ((x : ℕ) → x < walk_count w → in_extent w.entries e x ≡ (nat_le e x && nat_lt x extent))
      → IsPassed w e First extent
  passed_over e end extent old l outside over run =
      let clear : is_covered w e e ≡ false = old e (omega arith) l ∙ le-ltb e end outside in
      record {
        skip_is = sym (skip_shown e l ∙ shown_first (skippable w e) (is_covered w e e) over clear);
        covers = λ x a b.
            one_more e x
            ∙ ap₂ (λ c s. c || (s && in_extent w.entries e x)) (old x (omega (arith, a)) b
            ∙ le-ltb x end (omega (arith, a, outside))) over
            ∙ run x b ∙ run_behind e x extent (omega (arith, a));
      }

  pub passed_by : (e end : ℕ) → SkipEndsAt w e end → e < walk_count w → end ≤ e
      → skippable w e ≡ false → IsPassed w e Not end
  passed_by e end old l outside by =
      let clear : is_covered w e e ≡ false = old e (omega arith) l ∙ le-ltb e end outside in
      record {
        skip_is = sym (skip_shown e l ∙ shown_not (skippable w e) (is_covered w e e) by clear);
        covers = λ x a b.
            one_more e x ∙ ap (λ s. is_covered w e x || (s && in_extent w.entries e x)) by
            ∙ or-false (is_covered w e x)
            ∙ old x (omega (arith, a)) b;
      }

  -- an entry behind all that is skipped, which may not be skipped itself, isn't
  pub left_out : (e end : ℕ) → SkipEndsAt w e end → e < walk_count w → end ≤ e
      → skippable w e ≡ false → is_skipped w e ≡ false
  left_out e end old l outside by =
      sym (skipped_is e Not l (passed_by e end old l outside by).skip_is)

-- before the first entry nothing is skipped
pub covers_none : (w : Walk) → SkipEndsAt w 0 0
covers_none w = λ e a b. sym (le-ltb e 0 (omega arith))
