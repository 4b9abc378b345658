-- Jobs below n, each once, are at most n.
use Rattle.std.proofs.Common.{◌≡◌, ◌≢◌, ℕ, zero, suc, ◌+◌, ◌<◌, ◌≤◌, Bool, cond, List, [], ◌∷◌}
use Rattle.std.proofs.Common.{length, eq-eqb, ne_eqb, refl, sym, ap, ◌∙◌, arith}
use mathlib.Core.Logic.{dite}
use native.Mathlib.Decide.{dec_le, ℕ_discrete}
use Rattle.dir_queue.specs.declared.rule.Job.{Job}
use Rattle.walk_steps.specs.Lists.{hit}
use Rattle.dir_queue.specs.Rule.{waiting}

abbrev count_if : Bool → ℕ
count_if b = cond b 1 0

below : ℕ → (ℕ → ℕ) → ℕ
below zero f = 0
below (suc n) f = f n + below n f

below_one : (n x : ℕ) → x < n → 1 ≤ below n (λ j. hit x j)
unfolding below
below_one zero x lt = absurd (omega arith)
below_one (suc n) x lt = dite (ℕ_discrete x n)
    (λ (e : x ≡ n). let t : hit x n ≡ 1 = ap count_if (eq-eqb x n e) in omega (arith, t))
    (λ (ne : x ≢ n). let r = below_one n x (omega arith) in omega (arith, r))

below_add : (n : ℕ) (f g : ℕ → ℕ) → below n (λ j. f j + g j) ≡ below n f + below n g
unfolding below
below_add zero f g = refl
below_add (suc n) f g = let r = below_add n f g in omega (arith, r)

below_le : (n : ℕ) (f : ℕ → ℕ) → ((j : ℕ) → f j ≤ 1) → below n f ≤ n
unfolding below
below_le zero f h = omega arith
below_le (suc n) f h = let a = h n in let r = below_le n f h in omega (arith, a, r)

counted : (n : ℕ) (items : List Job) → ((j : ℕ) → n ≤ j → waiting j items ≡ 0)
    → length items ≤ below n (λ j. waiting j items)
unfolding below
counted n [] h = omega arith
counted n (x ∷ xs) h = let r = counted n xs (λ j le. let a = h j le in omega (arith, a)) in
    let s = below_add n (λ j. hit x.number j) (λ j. waiting j xs) in
    let lt : x.number < n = dite (dec_le n x.number)
    (λ (le : n ≤ x.number). absurd (let a = h x.number le in
    let t : hit x.number x.number ≡ 1 = ap count_if (eq-eqb x.number x.number refl) in
    omega (arith, a, t)))
    (λ (no : ¬ (n ≤ x.number)). omega arith) in
    let o = below_one n x.number lt in omega (arith, r, s, o)

-- a further job below n that is not among them
pub room : (n j : ℕ) (items : List Job) → j < n → ((k : ℕ) → waiting k items ≤ 1)
    → waiting j items ≡ 0 → ((k : ℕ) → n ≤ k → waiting k items ≡ 0) → length items + 1 ≤ n
room n j items lt single free high = let a = counted n items high in let b = below_one n j lt in
    let s = below_add n (λ k. hit j k) (λ k. waiting k items) in
    let t = below_le n (λ k. hit j k + waiting k items) (λ k. dite (ℕ_discrete j k)
    (λ (e : j ≡ k). let z : hit j k ≡ 1 = ap count_if (eq-eqb j k e) in
    let f : waiting k items ≡ 0 = ap (λ (i : ℕ). waiting i items) (sym e) ∙ free in
    omega (arith, z, f))
    (λ (ne : j ≢ k). let z : hit j k ≡ 0 = ap count_if (ne_eqb j k ne) in let f = single k in
    omega (arith, z, f))) in
    omega (arith, a, b, s, t)
