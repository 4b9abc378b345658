-- Where the entries of each group begin among those of all.
use Rattle.std.proofs.Common.{◌≡◌, ◌∙◌, ap, sym, refl, subst, ℕ, zero, suc, ◌+◌, ◌<◌, ◌≤◌, ◌==◌}
use Rattle.std.proofs.Common.{Bool, true, false, cond, List, [], ◌∷◌, ◌++◌, length, get_or, arith}
use Rattle.std.proofs.Common.{◌⊎◌, inl, inr, length-append}
use Rattle.std.specs.Prelude.{nat_lt}
use Rattle.std.proofs.lemmas.Bool.{cases_lt}
use Rattle.std.proofs.lemmas.Bool.Decides.{nat_tests}
use Rattle.std.proofs.lemmas.List.{get_or_append_left}
use Rattle.std.proofs.Math.Seq.{get_or-append_seam}
use Rattle.tree_model.specs.GroupLists.{group_names, names_at, names_below, AreGroupStarts}

-- how many are below k
number_below : List ℕ → ℕ → ℕ
number_below [] k = 0
number_below (x ∷ xs) k = cond (nat_lt x k) 1 0 + number_below xs k

one_below : (x k : ℕ) → cond (nat_lt x (suc k)) 1 0 ≡ cond (nat_lt x k) 1 0 + cond (x == k) 1 0
one_below x k = grind (arith, nat_tests)

length_case : (b : Bool) (x : ℕ) (xs : List ℕ) → length (cond b (x ∷ xs) xs) ≡ cond b 1 0 + length
    xs
length_case true x xs = omega arith
length_case false x xs = omega arith

length_names : (p x k : ℕ) (xs : List ℕ) → length (group_names p (x ∷ xs) k) ≡ cond (x == k) 1
    0 + length (group_names (suc p) xs k)
length_names p x k xs = length_case (x == k) p (group_names (suc p) xs k)

below_more : (xs : List ℕ) (p k : ℕ) → number_below xs (suc k) ≡ number_below xs k + length
    (group_names p xs k)
unfolding number_below
below_more [] p k = refl
below_more (x ∷ xs) p k =
    omega (arith, one_below x k, below_more xs (suc p) k, length_names p x k xs)

below_all : (xs : List ℕ) (k : ℕ) → number_below xs k ≤ length xs
unfolding number_below
below_all [] k = omega arith
below_all (x ∷ xs) k = by_case (nat_lt x k) (below_all xs k)
  where
    by_case : (b : Bool) → number_below xs k ≤ length xs → cond b 1 0 + number_below xs k
        ≤ suc (length xs)
    by_case true h = omega (arith, h)
    by_case false h = omega (arith, h)

zero_below : (x : ℕ) → cond {A = ℕ} (nat_lt x zero) 1 0 ≡ 0
zero_below x = grind (arith, nat_tests)

none_below : (xs : List ℕ) → number_below xs zero ≡ 0
unfolding number_below
none_below [] = refl
none_below (x ∷ xs) = omega (arith, zero_below x, none_below xs)

count_below : (xs : List ℕ) (k : ℕ) → length (names_below xs k) ≡ number_below xs k
unfolding names_at
count_below xs zero = sym (none_below xs)
count_below xs (suc k) =
    omega (
      arith,
      length-append (names_below xs k) (group_names zero xs k),
      count_below xs k,
      below_more xs zero k,
    )

pub few_below : (groups : List ℕ) (k : ℕ) → length (names_below groups k) ≤ length groups
few_below groups k = omega (arith, count_below groups k, below_all groups k)

-- one group more
start_here : (groups starts : List ℕ) (k start : ℕ) → AreGroupStarts groups k starts
    → start ≡ length (names_below groups k)
    → (g : ℕ) → (g < k) ⊎ (k ≤ g) → g < k + 1 → get_or (starts ++ start ∷ []) g 0
    ≡ length (names_below groups g)
start_here groups starts k start r e g (inl lt) l =
    get_or_append_left starts (start ∷ []) 0 g (omega (arith, r.sized, lt)) ∙ r.begins g lt
start_here groups starts k start r e g (inr ge) l =
    let same : length starts ≡ g = omega (arith, r.sized, ge, l) in
    let own : k ≡ g = omega (arith, ge, l) in
    subst (λ i. get_or (starts ++ start ∷ []) i 0 ≡ start) same
    (get_or-append_seam starts start [] 0)
    ∙ e ∙ ap (λ i. length (names_below groups i)) own

pub start_next : (groups starts : List ℕ) (k start : ℕ) → AreGroupStarts groups k starts
    → start ≡ length (names_below groups k) → AreGroupStarts groups (k + 1) (starts ++ start ∷ [])
start_next groups starts k start r e = record {
  sized = omega (arith, length-append starts (start ∷ []), r.sized);
  begins = λ g l. start_here groups starts k start r e g (cases_lt g k) l;
}
