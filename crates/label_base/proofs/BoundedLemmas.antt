-- What the tests of the numbers below a bound tell.
use Rattle.std.proofs.Common.{ap₂, sym, refl, subst, ℕ, zero, suc, ◌<◌, ◌≤◌, cond, Bool, true}
use Rattle.std.proofs.Common.{false, ◌⊎◌, ◌||◌, Option, Some, None, inl, inr, arith, ◌≡◌, ◌∙◌, ap}
use Rattle.std.proofs.Common.{[], ◌∷◌, length, length-append, ◌&&◌}
use Rattle.std.proofs.lemmas.Bool.{and_parts, or_cases, or_parts, or_from, or_left, or_right}
use Rattle.std.proofs.lemmas.Bool.{cases_lt, lt-ltb, le-ltb}
use Rattle.std.specs.Prelude.{IfSome}
use Rattle.label_base.specs.Bounded.{all_below, all_numbers, any_below, found_or, greater}
use Rattle.label_base.specs.Bounded.{greatest_below, last_or_found, least_below, implies}

pub implies_at : (a b : Bool) → implies a b ≡ true → a ≡ true → b ≡ true
implies_at true b h e = h
implies_at false b h e = cc

-- a number below suc n is below n, or n
pub below_or_last : (n k : ℕ) → k < suc n → (k < n) ⊎ (n ≡ k)
below_or_last n k l = elim (cases_lt k n) [ inl lt ↦ inl lt | inr ge ↦ inr (omega arith) ]

pub all_at : (n : ℕ) (p : ℕ → Bool) (k : ℕ) → all_below n p ≡ true → k < n → p k ≡ true
all_at zero p k h l = absurd (omega arith)
all_at (suc n) p k h l =
    let both = and_parts (all_below n p) (p n) h in
    elim (below_or_last n k l) [
      | inl lt ↦ all_at n p k both.0 lt
      | inr e ↦ subst (λ i. p i ≡ true) e
          both.1
    ]

pub any_at : (n : ℕ) (p : ℕ → Bool) (k : ℕ) → k < n → p k ≡ true → any_below n p ≡ true
any_at zero p k l h = absurd (omega arith)
any_at (suc n) p k l h =
    elim (below_or_last n k l) [
      | inl lt ↦ or_left (any_below n p) (p n) (any_at n p k lt h)
      | inr e ↦ or_right (any_below n p) (p n) (subst (λ i. p i ≡ true) (sym e) h)
    ]

-- one that passes
pub any_has : (n : ℕ) (p : ℕ → Bool) → any_below n p ≡ true → (k : ℕ) × (k < n) × (p k ≡ true)
any_has zero p h = cc
any_has (suc n) p h =
    elim (or_cases (any_below n p) (p n) h) [
      | inl a ↦ (let r = any_has n p a in (r.0, omega (arith, r.1), r.2))
      | inr b ↦ (n, omega arith, b)
    ]

pub none_at : (n : ℕ) (p : ℕ → Bool) (k : ℕ) → any_below n p ≡ false → k < n → p k ≡ false
none_at zero p k h l = absurd (omega arith)
none_at (suc n) p k h l =
    let both = or_parts (any_below n p) (p n) h in
    elim (below_or_last n k l) [
      | inl lt ↦ none_at n p k both.0 lt
      | inr e ↦ subst (λ i. p i ≡ false)
          e both.1
    ]

pub none_from : (n : ℕ) (p : ℕ → Bool) → ((k : ℕ) → k < n → p k ≡ false) → any_below n p ≡ false
none_from zero p h = refl
none_from (suc n) p h = or_from (any_below n p) (p n) (none_from n p (λ k l. h k (omega arith)))
    (h n (omega arith))

pub any_same : (n : ℕ) (p q : ℕ → Bool) → ((k : ℕ) → k < n → p k ≡ q k)
    → any_below n p ≡ any_below n q
any_same zero p q h = refl
any_same (suc n) p q h = ap₂ (λ a b. a || b) (any_same n p q (λ k l. h k (omega arith)))
    (h n (omega arith))

-- tests that agree below n have one least number
pub least_same : (n : ℕ) (p q : ℕ → Bool) → ((k : ℕ) → k < n → p k ≡ q k)
    → least_below n p ≡ least_below n q
least_same zero p q h = refl
least_same (suc n) p q h = ap₂ (λ o b. found_or o n b) (least_same n p q (λ k l. h k (omega arith)))
    (h n (omega arith))

pub least_none : (n : ℕ) (p : ℕ → Bool) → ((k : ℕ) → k < n → p k ≡ false) → least_below n p ≡ None
least_none zero p h = refl
least_none (suc n) p h = ap₂ (λ o b. found_or o n b) (least_none n p (λ k l. h k (omega arith)))
    (h n (omega arith))

found_case : (P : Option ℕ → Type 0) (n : ℕ) (b : Bool) → P None → (b ≡ true → P (Some n))
    → P (found_or None n b)
found_case P n true z f = f refl
found_case P n false z f = z

-- what holds of nothing and of each number below n that passes holds of the least
pub least_case : (n : ℕ) (p : ℕ → Bool) (P : Option ℕ → Type 0) → P None
    → ((k : ℕ) → k < n → p k ≡ true → P (Some k)) → P (least_below n p)
least_case zero p P z f = z
least_case (suc n) p P z f =
    least_case n p (λ o. P (found_or o n (p n))) (found_case P n (p n) z (λ e. f n (omega arith) e))
    (λ k l e. f k (omega arith) e)

pub all_from : (n : ℕ) (p : ℕ → Bool) → ((k : ℕ) → k < n → p k ≡ true) → all_below n p ≡ true
all_from zero p h = refl
all_from (suc n) p h = ap₂ (λ a b. a && b) (all_from n p (λ k l. h k (omega arith)))
    (h n (omega arith))

pub all_same : (n : ℕ) (p q : ℕ → Bool) → ((k : ℕ) → k < n → p k ≡ q k)
    → all_below n p ≡ all_below n q
all_same zero p q h = refl
all_same (suc n) p q h = ap₂ (λ a b. a && b) (all_same n p q (λ k l. h k (omega arith)))
    (h n (omega arith))

-- what the least number is: it passes, and none before it does; without one, none does
abbrev pub IsLeast : ℕ → (ℕ → Bool) → Option ℕ → Type 0
IsLeast n p None = (j : ℕ) → j < n → p j ≡ false
IsLeast n p (Some k) = (k < n) × (p k ≡ true) × ((j : ℕ) → j < k → p j ≡ false)

one_more_least : (n : ℕ) (p : ℕ → Bool) (found : Option ℕ) (b : Bool) → p n ≡ b → IsLeast n p found
    → IsLeast (suc n) p (found_or found n b)
one_more_least n p (Some i) b e r = (omega (arith, r.0), r.1, r.2)
one_more_least n p None true e r = (omega arith, e, r)
one_more_least n p None false e r =
    λ j l. elim (below_or_last n j l)
    [ inl lt ↦ r j lt | inr same ↦ subst (λ i. p i ≡ false) same e ]

pub least_shown : (n : ℕ) (p : ℕ → Bool) → IsLeast n p (least_below n p)
least_shown zero p = λ j l. absurd (omega arith)
least_shown (suc n) p = one_more_least n p (least_below n p) (p n) refl (least_shown n p)

-- a number that passes, before which none does, is the least
pub least_is : (n : ℕ) (p : ℕ → Bool) (k : ℕ) → k < n → p k ≡ true → ((j : ℕ) → j < k → p j ≡ false)
    → least_below n p ≡ Some k
least_is zero p k l h f = absurd (omega arith)
least_is (suc n) p k l h f =
    elim (below_or_last n k l) [
      | inl lt ↦ ap (λ o. found_or o n (p n)) (least_is n p k lt h f)
      | inr same ↦ ap₂ (λ o b. found_or o n b) (least_none n p (λ j i. f j (omega (arith, same))))
          (subst (λ i. p i ≡ true) (sym same) h) ∙ ap Some same
    ]

pub cond_last : (n : ℕ) (found : Option ℕ) (b : Bool) → cond b (Some n) found ≡ last_or_found found
    n b
cond_last n found true = refl
cond_last n found false = refl

-- a number that passes, behind which none does, is the greatest
pub greatest_none : (n : ℕ) (p : ℕ → Bool) → ((k : ℕ) → k < n → p k ≡ false)
    → greatest_below n p ≡ None
greatest_none zero p h = refl
greatest_none (suc n) p h =
    ap₂ (λ o b. last_or_found o n b) (greatest_none n p (λ k l. h k (omega arith)))
    (h n (omega arith))

pub greatest_is : (n : ℕ) (p : ℕ → Bool) (k : ℕ) → k < n → p k ≡ true
    → ((j : ℕ) → k < j → j < n → p j ≡ false) → greatest_below n p ≡ Some k
greatest_is zero p k l h f = absurd (omega arith)
greatest_is (suc n) p k l h f =
    elim (below_or_last n k l) [
      | inl lt ↦ ap₂ (λ o b. last_or_found o n b)
          (greatest_is n p k lt h (λ j a b. f j a (omega arith))) (f n lt (omega arith))
      | inr same ↦ ap (λ b. last_or_found (greatest_below n p) n b)
          (subst (λ i. p i ≡ true) (sym same) h) ∙ ap Some same
    ]

-- what the greatest number is: it passes, and none behind it does; without one, none does
abbrev pub IsGreatest : ℕ → (ℕ → Bool) → Option ℕ → Type 0
IsGreatest n p None = (j : ℕ) → j < n → p j ≡ false
IsGreatest n p (Some k) = (k < n) × (p k ≡ true) × ((j : ℕ) → k < j → j < n → p j ≡ false)

one_more_greatest : (n : ℕ) (p : ℕ → Bool) (found : Option ℕ) (b : Bool) → p n ≡ b
    → IsGreatest n p found → IsGreatest (suc n) p (last_or_found found n b)
one_more_greatest n p found true e r = (omega arith, e, λ j a b. absurd (omega arith))
one_more_greatest n p (Some i) false e r = (
  omega (arith, r.0),
  r.1,
  λ j a b. elim (below_or_last n j b)
      [ inl lt ↦ r.2 j a lt | inr same ↦ subst (λ i. p i ≡ false) same e ],
)
one_more_greatest n p None false e r =
    λ j l. elim (below_or_last n j l)
    [ inl lt ↦ r j lt | inr same ↦ subst (λ i. p i ≡ false) same e ]

pub greatest_shown : (n : ℕ) (p : ℕ → Bool) → IsGreatest n p (greatest_below n p)
greatest_shown zero p = λ j l. absurd (omega arith)
greatest_shown (suc n) p = one_more_greatest n p (greatest_below n p) (p n) refl
    (greatest_shown n p)

bound_of : (n : ℕ) (p : ℕ → Bool) (found : Option ℕ) → IsGreatest n p found
    → IfSome found (λ k. k < n)
bound_of n p None r = tt
bound_of n p (Some k) r = r.0

pub greatest_bound : (n : ℕ) (p : ℕ → Bool) → IfSome (greatest_below n p) (λ k. k < n)
greatest_bound n p = bound_of n p (greatest_below n p) (greatest_shown n p)

passes_of : (n : ℕ) (p : ℕ → Bool) (found : Option ℕ) → IsGreatest n p found
    → IfSome found (λ k. p k ≡ true)
passes_of n p None r = tt
passes_of n p (Some k) r = r.1

pub greatest_passes : (n : ℕ) (p : ℕ → Bool) → IfSome (greatest_below n p) (λ k. p k ≡ true)
greatest_passes n p = passes_of n p (greatest_below n p) (greatest_shown n p)

above_of : (n : ℕ) (p : ℕ → Bool) (found : Option ℕ) → IsGreatest n p found
    → IfSome found (λ k. (j : ℕ) → k < j → j < n → p j ≡ false)
above_of n p None r = tt
above_of n p (Some k) r = r.2

pub greatest_above : (n : ℕ) (p : ℕ → Bool)
    → IfSome (greatest_below n p) (λ k. (j : ℕ) → k < j → j < n → p j ≡ false)
greatest_above n p = above_of n p (greatest_below n p) (greatest_shown n p)

pub greatest_agree : (n : ℕ) (p q : ℕ → Bool) → ((k : ℕ) → k < n → p k ≡ q k)
    → greatest_below n p ≡ greatest_below n q
greatest_agree zero p q h = refl
greatest_agree (suc n) p q h =
    ap₂ (λ o b. last_or_found o n b) (greatest_agree n p q (λ k l. h k (omega (arith, l))))
    (h n (omega arith))

greater_case : (n : ℕ) (a b : Option ℕ) (p q : Bool) → IfSome a (λ k. k < n) → IfSome b (λ k. k < n)
    → greater (last_or_found a n p) (last_or_found b n q) ≡ last_or_found (greater a b) n (p || q)
greater_case n a b false false h k = refl
greater_case n a b true true h k = ap (λ t. cond t (Some n) (Some n)) (le-ltb n n (omega arith))
greater_case n a None true false h k = refl
greater_case n a (Some j) true false h k =
    ap (λ t. cond t (Some j) (Some n)) (le-ltb n j (omega (arith, k)))
greater_case n None b false true h k = refl
greater_case n (Some i) b false true h k = ap (λ t. cond t (Some n) (Some i)) (lt-ltb i n h)

-- the greater of two is the greatest that passes either test
pub greater_below : (n : ℕ) (p q : ℕ → Bool) → greater (greatest_below n p) (greatest_below n q)
    ≡ greatest_below n (λ i. p i || q i)
greater_below zero p q = refl
greater_below (suc n) p q =
    greater_case n (greatest_below n p) (greatest_below n q) (p n) (q n) (greatest_bound n p)
    (greatest_bound n q)
    ∙ ap (λ o. last_or_found o n (p n || q n)) (greater_below n p q)

-- none passes from a place on
pub greatest_shrinks : (n k : ℕ) (p : ℕ → Bool) → k ≤ n → ((j : ℕ) → k ≤ j → j < n → p j ≡ false)
    → greatest_below n p ≡ greatest_below k p
greatest_shrinks zero k p l h = let same : zero ≡ k = omega (arith, l) in
    ap (λ m. greatest_below m p) same
greatest_shrinks (suc n) k p l h = elim (cases_lt n k) [
  | inl lt ↦ (let same : suc n ≡ k = omega (arith, l, lt) in ap (λ m. greatest_below m p) same)
  | inr ge ↦ ap (λ b. last_or_found (greatest_below n p) n b) (h n ge (omega arith))
      ∙ greatest_shrinks n k p ge (λ j a b. h j a (omega (arith, b)))
]

pub count_numbers : (n : ℕ) → length (all_numbers n) ≡ n
count_numbers zero = refl
count_numbers (suc n) = omega (arith, length-append (all_numbers n) (n ∷ []), count_numbers n)
