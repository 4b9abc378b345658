-- What sums over a list tell of its members, which are given by their places.
use Rattle.std.proofs.Common.{◌≡◌, ◌≢◌, ℕ, zero, suc, ◌+◌, ◌<◌, ◌≤◌, List, [], ◌∷◌, set, sum_by}
use Rattle.std.proofs.Common.{refl, sym, ap, arith}
use Rattle.std.proofs.lemmas.List.Sums.{sum_by-cons}
use mathlib.Core.Option.{some, some-injective, some-ne-none}
use mathlib.Core.Logic.{dite}
use native.Mathlib.Decide.{dec_le}
use lib.ListN.{get_elem?}

module _ {V : Type 0} (f : V → ℕ) where
  pub sum_set : (items : List V) (place : ℕ) (v w : V) → get_elem? items place ≡ some v
      → sum_by f (set items place w) + f v ≡ sum_by f items + f w
  sum_set [] place v w at = absurd (some-ne-none v (sym at))
  sum_set (x ∷ xs) zero v w at = let e : f x ≡ f v = ap f (some-injective x v at) in
      let a = sum_by-cons f x xs in let b = sum_by-cons f w xs in omega (arith, e, a, b)
  sum_set (x ∷ xs) (suc place) v w at = let r = sum_set xs place v w at in
      let a = sum_by-cons f x xs in let b = sum_by-cons f x (set xs place w) in
      omega (arith, r, a, b)

  pub one_of : (items : List V) (place : ℕ) (v : V) → get_elem? items place ≡ some v
      → f v ≤ sum_by f items
  one_of [] place v at = absurd (some-ne-none v (sym at))
  one_of (x ∷ xs) zero v at = let e : f x ≡ f v = ap f (some-injective x v at) in
      let a = sum_by-cons f x xs in omega (arith, e, a)
  one_of (x ∷ xs) (suc place) v at = let r = one_of xs place v at in let a = sum_by-cons f x xs in
      omega (arith, r, a)

  none_of : (items : List V) → ((j : ℕ) (u : V) → get_elem? items j ≡ some u → f u ≡ 0)
      → sum_by f items ≡ 0
  none_of [] h = refl
  none_of (x ∷ xs) h = let here = h 0 x refl in let r = none_of xs (λ j u e. h (suc j) u e) in
      let a = sum_by-cons f x xs in omega (arith, here, r, a)

  -- where all items but one are 0 by f, the sum is that one
  pub only : (items : List V) (place : ℕ) (v : V) → get_elem? items place ≡ some v
      → ((j : ℕ) (u : V) → j ≢ place → get_elem? items j ≡ some u → f u ≡ 0) → sum_by f items ≡ f v
  only [] place v at h = absurd (some-ne-none v (sym at))
  only (x ∷ xs) zero v at h = let e : f x ≡ f v = ap f (some-injective x v at) in
      let r = none_of xs (λ j u i. h (suc j) u (λ n. omega arith) i) in
      let a = sum_by-cons f x xs in omega (arith, e, r, a)
  only (x ∷ xs) (suc place) v at h = let here = h 0 x (λ n. omega arith) refl in
      let r = only xs place v at (λ j u n i. h (suc j) u (λ m. n (omega arith)) i) in
      let a = sum_by-cons f x xs in omega (arith, here, r, a)

  -- two places of the list together
  pub two_of : (items : List V) (a b : ℕ) (v u : V) → a ≢ b → get_elem? items a ≡ some v
      → get_elem? items b ≡ some u → f v + f u ≤ sum_by f items
  two_of [] a b v u n at bt = absurd (some-ne-none v (sym at))
  two_of (x ∷ xs) zero zero v u n at bt = absurd (n refl)
  two_of (x ∷ xs) zero (suc b) v u n at bt = let e : f x ≡ f v = ap f (some-injective x v at) in
      let r = one_of xs b u bt in let c = sum_by-cons f x xs in omega (arith, e, r, c)
  two_of (x ∷ xs) (suc a) zero v u n at bt = let e : f x ≡ f u = ap f (some-injective x u bt) in
      let r = one_of xs a v at in let c = sum_by-cons f x xs in omega (arith, e, r, c)
  two_of (x ∷ xs) (suc a) (suc b) v u n at bt = let r =
      two_of xs a b v u (λ e. n (ap suc e)) at bt in let c = sum_by-cons f x xs in
      omega (arith, r, c)

  pub someone : (items : List V) → 0 < sum_by f items → (p : ℕ) × (u : V)
      × (get_elem? items p ≡ some u) × (0 < f u)
  someone [] h = absurd (omega arith)
  someone (x ∷ xs) h = dite (dec_le 1 (f x)) (λ (le : 1 ≤ f x). (0, x, refl, le))
      (λ (no : ¬ (1 ≤ f x)). let c = sum_by-cons f x xs in let r = someone xs (omega (arith, c)) in
      (suc r.0, r.1, r.2, r.3))
