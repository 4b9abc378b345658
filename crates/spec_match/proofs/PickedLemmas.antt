-- Lists of indices that are found in any order.
use Rattle.std.proofs.Common.{◌≡◌, ◌∙◌, refl, sym, ap, subst, ℕ, zero, suc, ◌+◌, ◌<◌, ◌≤◌, ◌⊎◌, inl}
use Rattle.std.proofs.Common.{inr, Bool, true, false, cond, List, [], ◌∷◌, Some, length, get_or}
use Rattle.std.proofs.Common.{map, filter, arith}
use Rattle.std.specs.Prelude.{slice_get, slice_index}
use Rattle.std.specs.List.{Contains, dedup, enumerate_from}
use Rattle.std.specs.List.Sorted.{IsPermutation, IsSorted, IsStrictlyIncreasing}
use Rattle.std.specs.Ordering.{nat_cmp}
use Rattle.std.proofs.lemmas.List.Kept.{Contains-dedup_nat, Contains-from_dedup}
use Rattle.std.proofs.lemmas.List.Sorted.{Contains-permutation, IsPermutation-sym}
use Rattle.std.proofs.lemmas.Map.Keys.{IsStrictlyIncreasing-dedup}
use lib.Dec.{eqb}

-- the indices of those that pass, counted from a number on
abbrev pub picked : {S : Type 0} → (S → Bool) → ℕ → List S → List ℕ
picked test n ss = map (λ p. p.0) (filter (λ p. test p.1) (enumerate_from n ss))

-- membership by recursion
abbrev pub Has : List ℕ → ℕ → Type 0
Has [] i = ⊥
Has (x ∷ xs) i = (x ≡ i) ⊎ Has xs i

pub has_place : (xs : List ℕ) (k i : ℕ) → k < length xs → get_or xs k i ≡ i → Has xs i
has_place [] k i l e = absurd (omega (arith, l))
has_place (x ∷ xs) zero i l e = inl e
has_place (x ∷ xs) (suc k) i l e = inr (has_place xs k i (omega (arith, l)) e)

pub has_contained : (xs : List ℕ) (i : ℕ) → Contains xs i → Has xs i
has_contained xs i h = has_place xs h.0 i h.1 h.2

pub contains_had : (xs : List ℕ) (i : ℕ) → Has xs i → Contains xs i
contains_had [] i h = absurd h
contains_had (x ∷ xs) i (inl e) = (zero, omega arith, e)
contains_had (x ∷ xs) i (inr h) = let c = contains_had xs i h in (suc c.0, omega (arith, c.1), c.2)

-- numbers from one on, each above the one before
abbrev pub Rises : ℕ → List ℕ → Type 0
Rises n [] = Unit {0}
Rises n (x ∷ xs) = (n ≤ x) × Rises (suc x) xs

rises_on : (n x : ℕ) (xs : List ℕ) → n ≤ x
    → ((k : ℕ) → suc k < length (x ∷ xs) → slice_index (x ∷ xs) k < slice_index (x ∷ xs) (suc k))
    → Rises n (x ∷ xs)
rises_on n x [] l h = (l, tt)
rises_on n x (y ∷ ys) l h = (
  l,
  rises_on (suc x) y ys (let f = h 0 (omega arith) in omega (arith, f))
      (λ k m. h (suc k) (omega (arith, m))),
)

pub rises_by : (xs : List ℕ) → IsStrictlyIncreasing xs → Rises 0 xs
rises_by [] h = tt
rises_by (x ∷ xs) h = rises_on 0 x xs (omega arith) (λ k m. let e : k + 1 ≡ suc k = omega arith in
    subst (λ j. slice_index (x ∷ xs) k < slice_index (x ∷ xs) j) e (h k (omega (arith, m))))

low : (n i : ℕ) (xs : List ℕ) → Rises n xs → Has xs i → n ≤ i
low n i [] r h = absurd h
low n i (x ∷ xs) r (inl e) = let l = r.0 in omega (arith, e, l)
low n i (x ∷ xs) r (inr h) = let l = r.0 in let m = low (suc x) i xs r.1 h in omega (arith, l, m)

raised : (n : ℕ) (xs : List ℕ) → Rises n xs → (Has xs n → ⊥) → Rises (n + 1) xs
raised n [] r h = tt
raised n (x ∷ xs) r h = (above n x r.0 (λ e. h (inl e)), r.1)
  where
    above : (n x : ℕ) → n ≤ x → (x ≡ n → ⊥) → n + 1 ≤ x
    above n x l h = elim (cases n x l) [ inl e ↦ absurd (h e) | inr m ↦ m ]
      where
        cases : (n x : ℕ) → n ≤ x → (x ≡ n) ⊎ (n + 1 ≤ x)
        cases zero zero l = inl refl
        cases zero (suc x) l = inr (omega arith)
        cases (suc n) zero l = absurd (omega (arith, l))
        cases (suc n) (suc x) l =
            elim (cases n x (omega (arith, l)))
            [ inl e ↦ inl (ap suc e) | inr m ↦ inr (omega (arith, m)) ]

module _ {S : Type 0} (test : S → Bool) where
  -- the number is the index of one that passes, counted from a number on
  abbrev pub At : ℕ → List S → ℕ → Type 0
  At n [] i = ⊥
  At n (s ∷ ss) i = ((n ≡ i) × (test s ≡ true)) ⊎ At (n + 1) ss i

  at_low : (n i : ℕ) (ss : List S) → At n ss i → n ≤ i
  at_low n i [] a = absurd a
  at_low n i (s ∷ ss) (inl a) = let e = a.0 in omega (arith, e)
  at_low n i (s ∷ ss) (inr a) = let l = at_low (n + 1) i ss a in omega (arith, l)

  pub picked_at : (n k : ℕ) (ss : List S) (s : S) → slice_get ss k ≡ Some s → test s ≡ true
      → At n ss (n + k)
  picked_at n k [] s e t = cc
  picked_at n zero (x ∷ ss) s e t = inl (omega arith, (let f : x ≡ s = cc in ap test f ∙ t))
  picked_at n (suc k) (x ∷ ss) s e t =
      inr (let f : (n + 1) + k ≡ n + suc k = omega arith in
      subst (At (n + 1) ss) f (picked_at (n + 1) k ss s e t))

  first_of : (v : Bool) (n : ℕ) (s : S) (pairs : List (ℕ × S))
      → map (λ (p : ℕ × S). p.0) (cond v ((n, s) ∷ pairs) pairs)
      ≡ cond v (n ∷ map (λ (p : ℕ × S). p.0) pairs) (map (λ (p : ℕ × S). p.0) pairs)
  first_of true n s pairs = refl
  first_of false n s pairs = refl

  later : (n i : ℕ) (s : S) (ss : List S) → n < i → At n (s ∷ ss) i → At (n + 1) ss i
  later n i s ss l (inl a) = let e = a.0 in absurd (omega (arith, e, l))
  later n i s ss l (inr a) = a

  behind : (n : ℕ) (s : S) (ss : List S) (v : Bool) → test s ≡ v
      → cond v (n ∷ picked test (n + 1) ss) (picked test (n + 1) ss) ≡ picked test n (s ∷ ss)
  behind n s ss v t =
      sym (first_of (test s) n s (filter (λ p. test p.1) (enumerate_from (n + 1) ss))
      ∙ ap (λ v. cond v (n ∷ picked test (n + 1) ss) (picked test (n + 1) ss)) t)

  module _ (n : ℕ) (s : S) (ss : List S)
      (rest : (xs : List ℕ) → Rises (n + 1) xs → ((i : ℕ) → Has xs i → At (n + 1) ss i)
      → ((i : ℕ) → At (n + 1) ss i → Has xs i) → xs ≡ picked test (n + 1) ss) where
    picked_by : (v : Bool) → test s ≡ v → (xs : List ℕ) → Rises n xs
        → ((i : ℕ) → Has xs i → At n (s ∷ ss) i) → ((i : ℕ) → At n (s ∷ ss) i → Has xs i)
        → xs ≡ picked test n (s ∷ ss)
    picked_by true t [] r f g = absurd (g n (inl (refl, t)))
    picked_by true t (x ∷ xs) r f g =
        let same : x ≡ n =
        elim (g n (inl (refl, t))) [
          | inl e ↦ e
          | inr h ↦ (let l = r.0 in let m = low (suc x) n xs r.1 h in
              absurd (omega (arith, l, m)))
        ] in
        let next : suc x ≡ n + 1 = omega (arith, same) in
        let rises = subst (λ k. Rises k xs) next r.1 in
        let others =
        rest xs rises
        (λ i h. later n i s ss (let l = low (n + 1) i xs rises h in omega (arith, l))
        (f i (inr h)))
        (λ i a. elim (g i (inr a)) [
          | inl e ↦ (let l = at_low (n + 1) i ss a in absurd (omega (arith, e, l, same)))
          | inr h
              ↦ h
        ]) in
        ap (λ k. k ∷ xs) same ∙ ap (λ ks. n ∷ ks) others ∙ behind n s ss true t
    picked_by false t xs r f g =
        let none : Has xs n → ⊥ =
        λ h. elim (f n h) [
          | inl a ↦ (let e : true ≡ false = sym a.1 ∙ t in cc)
          | inr a ↦
              (let l = at_low (n + 1) n ss a in absurd (omega (arith, l)))
        ] in
        let rises = raised n xs r none in
        rest xs rises (λ i h. later n i s ss (let l = low (n + 1) i xs rises h in omega (arith, l))
        (f i h)) (λ i a. g i (inr a)) ∙ behind n s ss false t

  -- a list that rises and has just those that pass is the list of them
  pub picked_is : (n : ℕ) (ss : List S) (xs : List ℕ) → Rises n xs
      → ((i : ℕ) → Has xs i → At n ss i) → ((i : ℕ) → At n ss i → Has xs i) → xs ≡ picked test n ss
  picked_is n [] [] r f g = refl
  picked_is n [] (x ∷ xs) r f g = absurd (f x (inl refl))
  picked_is n (s ∷ ss) xs r f g = picked_by n s ss (picked_is (n + 1) ss) (test s) refl xs r f g

  -- a list is sorted, and of what is there twice one is left
  pub picked_sorted : (ss : List S) (found sorted : List ℕ) → ((i : ℕ) → Has found i → At 0 ss i)
      → ((i : ℕ) → At 0 ss i → Has found i) → IsPermutation found sorted → IsSorted nat_cmp sorted
      → dedup eqb sorted ≡ picked test 0 ss
  picked_sorted ss found sorted f g p s =
      picked_is 0 ss (dedup eqb sorted)
      (rises_by (dedup eqb sorted) (IsStrictlyIncreasing-dedup sorted s))
      (λ i h. f i (has_contained found i
      (Contains-permutation sorted found i (IsPermutation-sym found sorted p)
      (Contains-from_dedup eqb sorted i (contains_had (dedup eqb sorted) i h)))))
      (λ i a. has_contained (dedup eqb sorted) i
      (Contains-dedup_nat sorted i
      (Contains-permutation found sorted i p (contains_had found i (g i a)))))
