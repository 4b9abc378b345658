-- Numbers in lists, and in the lists of all workers.
use Rattle.std.proofs.Common.{◌≡◌, ◌≢◌, ℕ, zero, suc, ◌+◌, ◌<◌, ◌≤◌, ◌||◌, Bool, true, false}
use Rattle.std.proofs.Common.{true≢false, cond, eq-eqb, ne_eqb, List, [], ◌∷◌, ◌++◌, length}
use Rattle.std.proofs.Common.{replicate, refl, sym, ap, subst, ◌∙◌, arith, get_or-set_other}
use Rattle.std.proofs.Common.{get_or-set_same, length-set}
use mathlib.Core.Logic.{dite}
use native.Mathlib.Decide.{dec_le, ℕ_discrete}
use Rattle.walk_steps.specs.Lists.{is_in, list_of, added_to, hit, times, times_in_all}

abbrev passed : Bool → ℕ
passed b = cond b 1 0

pub hit_same : (a b : ℕ) → a ≡ b → hit a b ≡ 1
hit_same a b e = ap passed (eq-eqb a b e)

pub hit_other : (a b : ℕ) → a ≢ b → hit a b ≡ 0
hit_other a b ne = ap passed (ne_eqb a b ne)

pub hit_small : (a b : ℕ) → hit a b ≤ 1
hit_small a b = dite (ℕ_discrete a b) (λ (e : a ≡ b). let h = hit_same a b e in omega (arith, h))
    (λ (ne : a ≢ b). let h = hit_other a b ne in omega (arith, h))

pub times_append : (n : ℕ) (xs ys : List ℕ) → times n (xs ++ ys) ≡ times n xs + times n ys
times_append n [] ys = omega arith
times_append n (x ∷ xs) ys = let r = times_append n xs ys in omega (arith, r)

pub in_times : (n : ℕ) (xs : List ℕ) → is_in n xs ≡ true → 0 < times n xs
in_times n [] e = absurd (true≢false (sym e))
in_times n (x ∷ xs) e = dite (ℕ_discrete x n)
    (λ (s : x ≡ n). let h = hit_same x n s in omega (arith, h))
    (λ (ne : x ≢ n). let r = in_times n xs (sym (ap (λ b. b || is_in n xs) (ne_eqb x n ne)) ∙ e) in
    omega (arith, r))

pub out_times : (n : ℕ) (xs : List ℕ) → is_in n xs ≡ false → times n xs ≡ 0
out_times n [] e = refl
out_times n (x ∷ xs) e = dite (ℕ_discrete x n)
    (λ (s : x ≡ n). absurd (true≢false (sym (ap (λ b. b || is_in n xs) (eq-eqb x n s)) ∙ e)))
    (λ (ne : x ≢ n). let h = hit_other x n ne in
    let r = out_times n xs (sym (ap (λ b. b || is_in n xs) (ne_eqb x n ne)) ∙ e) in
    omega (arith, h, r))

-- a worker with something in its list is in range
pub in_range : (n w : ℕ) (lists : List (List ℕ)) → 0 < times n (list_of lists w) → w < length lists
in_range n w [] h = absurd (omega arith)
in_range n zero (x ∷ xs) h = omega arith
in_range n (suc w) (x ∷ xs) h = let r = in_range n w xs h in omega (arith, r)

pub added_total : (n m w : ℕ) (lists : List (List ℕ)) → w < length lists
    → times_in_all n (added_to lists w m) ≡ times_in_all n lists + hit m n
added_total n m w [] lt = absurd (omega arith)
added_total n m zero (x ∷ xs) lt = let a = times_append n x (m ∷ []) in omega (arith, a)
added_total n m (suc w) (x ∷ xs) lt = let r = added_total n m w xs (omega arith) in omega (arith, r)

pub added_length : (m w : ℕ) (lists : List (List ℕ)) → length (added_to lists w m) ≡ length lists
added_length m w lists = length-set lists w (list_of lists w ++ m ∷ [])

pub added_here : (n m w : ℕ) (lists : List (List ℕ)) → w < length lists
    → times n (list_of (added_to lists w m) w) ≡ times n (list_of lists w) + hit m n
added_here n m w lists lt = ap (times n) (get_or-set_same lists w (list_of lists w ++ m ∷ []) [] lt)
    ∙ (let a = times_append n (list_of lists w) (m ∷ []) in omega (arith, a))

pub added_else : (n m w v : ℕ) (lists : List (List ℕ)) → w ≢ v
    → times n (list_of (added_to lists w m) v) ≡ times n (list_of lists v)
added_else n m w v lists ne =
    ap (times n) (get_or-set_other lists w v (list_of lists w ++ m ∷ []) [] (λ e. ne (sym e)))

pub added_keeps : (n m w v : ℕ) (lists : List (List ℕ)) → w < length lists
    → times n (list_of lists v) ≤ times n (list_of (added_to lists w m) v)
added_keeps n m w v lists lt = dite (ℕ_discrete w v)
    (λ (e : w ≡ v). subst
    (λ (u : ℕ). times n (list_of lists u) ≤ times n (list_of (added_to lists w m) u)) e
    (let a = added_here n m w lists lt in omega (arith, a)))
    (λ (ne : w ≢ v). let a = added_else n m w v lists ne in omega (arith, a))

pub one_list : (n w : ℕ) (lists : List (List ℕ)) → times n (list_of lists w) ≤ times_in_all n lists
one_list n w [] = omega arith
one_list n zero (x ∷ xs) = omega arith
one_list n (suc w) (x ∷ xs) = let r = one_list n w xs in omega (arith, r)

pub two_lists : (n w v : ℕ) (lists : List (List ℕ)) → w ≢ v → times n (list_of lists w) + times n
    (list_of lists v) ≤ times_in_all n lists
two_lists n w v [] ne = omega arith
two_lists n zero zero (x ∷ xs) ne = absurd (ne refl)
two_lists n zero (suc v) (x ∷ xs) ne = let r = one_list n v xs in omega (arith, r)
two_lists n (suc w) zero (x ∷ xs) ne = let r = one_list n w xs in omega (arith, r)
two_lists n (suc w) (suc v) (x ∷ xs) ne = let r = two_lists n w v xs (λ e. ne (ap suc e)) in
    omega (arith, r)

pub someone : (n : ℕ) (lists : List (List ℕ)) → 0 < times_in_all n lists → (w : ℕ)
    × (0 < times n (list_of lists w))
someone n [] h = absurd (omega arith)
someone n (x ∷ xs) h = dite (dec_le 1 (times n x)) (λ (le : 1 ≤ times n x). (0, le))
    (λ (no : ¬ (1 ≤ times n x)). let r = someone n xs (omega arith) in (suc r.0, r.1))

pub none_in_empty : (n k : ℕ) → times_in_all n (replicate k []) ≡ 0
none_in_empty n zero = refl
none_in_empty n (suc k) = let r = none_in_empty n k in omega (arith, r)
