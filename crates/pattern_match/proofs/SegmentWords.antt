-- Numbers moved up and added, in lists and as bits of words.
use Rattle.std.proofs.Common.{◌≡◌, refl, sym, ◌∙◌, ap, ℕ, ◌+◌, ◌-◌, ◌*◌, ◌/◌, ◌%◌, ◌^◌, ◌<◌, ◌≤◌}
use Rattle.std.proofs.Common.{◌==◌, Bool, true, false, List, [], ◌∷◌, ◌++◌, ◌⊎◌, inl, inr, arith}
use lib.Pow.{pow_pos}
use Rattle.std.specs.Prelude.{◌||◌}
use Rattle.std.specs.Int.{bit_at}
use Rattle.std.proofs.lemmas.Bool.{cases_lt}
use Rattle.std.proofs.lemmas.List.{map-append}
use Rattle.std.proofs.lemmas.List.Folds.{list_any-append}
use Rattle.std.proofs.lemmas.Nat.Bits.{bit_at_cat_low, bit_at_cat_high, bit_at-zero}
use Rattle.std.specs.Cmp.{first_so, second_so}
use Rattle.pattern_match.specs.Automaton.{up, added, same_numbers}
use Rattle.pattern_match.specs.Segments.{in_word, among}

pub bit_below : (word by k : ℕ) → k < 64 → k < by → bit_at (word * 2 ^ by % 2 ^ 64) k ≡ 0
bit_below word by k l m =
    let e : word * 2 ^ by ≡ word * 2 ^ by / 2 ^ 64 * 2 ^ 64 + word * 2 ^ by % 2 ^ 64 =
    omega arith in
    let f : word * 2 ^ by + 0 ≡ word * 2 ^ by = omega arith in
    sym (bit_at_cat_low (word * 2 ^ by / 2 ^ 64) 64 (word * 2 ^ by % 2 ^ 64) k l)
    ∙ ap (λ n. bit_at n k) (sym e)
    ∙ ap (λ n. bit_at n k) (sym f)
    ∙ bit_at_cat_low word by 0 k m
    ∙ bit_at-zero k

pub bit_above : (word by k : ℕ) → k < 64 → by ≤ k → bit_at (word * 2 ^ by % 2 ^ 64) k ≡ bit_at word
    (k - by)
bit_above word by k l m =
    let e : word * 2 ^ by ≡ word * 2 ^ by / 2 ^ 64 * 2 ^ 64 + word * 2 ^ by % 2 ^ 64 =
    omega arith in
    let f : word * 2 ^ by + 0 ≡ word * 2 ^ by = omega arith in
    sym (bit_at_cat_low (word * 2 ^ by / 2 ^ 64) 64 (word * 2 ^ by % 2 ^ 64) k l)
    ∙ ap (λ n. bit_at n k) (sym e)
    ∙ ap (λ n. bit_at n k) (sym f)
    ∙ bit_at_cat_high word by 0 k (pow_pos by) m

pub word_below : (word by k : ℕ) → k < 64 → k < by → in_word (word * 2 ^ by % 2 ^ 64) k ≡ false
word_below word by k l m = ap (λ n. n == 1) (bit_below word by k l m)

pub word_above : (word by k : ℕ) → k < 64 → by ≤ k → in_word (word * 2 ^ by % 2 ^ 64) k
    ≡ in_word word (k - by)
word_above word by k l m = ap (λ n. n == 1) (bit_above word by k l m)

not_same : (n k : ℕ) → k < n → (n == k) ≡ false
not_same n k l = grind arith

as_far : (n by k : ℕ) → by ≤ k → (n + by == k) ≡ (n == k - by)
as_far n by k l = grind arith

pub among_below : (by k : ℕ) (numbers : List ℕ) → k < by → among (up by numbers) k ≡ false
among_below by k [] l = refl
among_below by k (n ∷ ns) l = rw (not_same (n + by) k (omega arith), among_below by k ns l) refl

pub among_above : (by k : ℕ) (numbers : List ℕ) → by ≤ k → among (up by numbers) k ≡ among numbers
    (k - by)
among_above by k [] l = refl
among_above by k (n ∷ ns) l = rw (as_far n by k l, among_above by k ns l) refl

-- a word moved up has the numbers moved up
pub moved_word : (word by : ℕ) (numbers : List ℕ)
    → ((k : ℕ) → k < 64 → in_word word k ≡ among numbers k) → (k : ℕ) → k < 64
    → in_word (word * 2 ^ by % 2 ^ 64) k ≡ among (up by numbers) k
moved_word word by numbers h k l = at (cases_lt k by)
  where
    at : (k < by) ⊎ (by ≤ k) → in_word (word * 2 ^ by % 2 ^ 64) k ≡ among (up by numbers) k
    at (inl m) = word_below word by k l m ∙ sym (among_below by k numbers m)
    at (inr m) = word_above word by k l m ∙ h (k - by) (omega arith)
        ∙ sym (among_above by k numbers m)

pub among_append : (xs ys : List ℕ) (k : ℕ) → among (xs ++ ys) k ≡ (among xs k || among ys k)
among_append xs ys k = list_any-append (λ n. n == k) xs ys

pub among_up_append : (by : ℕ) (xs ys : List ℕ) (k : ℕ) → among (up by (xs ++ ys)) k
    ≡ (among (up by xs) k || among (up by ys) k)
among_up_append by xs ys k = ap (λ ns. among ns k) (map-append (λ n. n + by) xs ys)
    ∙ among_append (up by xs) (up by ys) k

same_number : (m n : ℕ) → (m == n) ≡ true → m ≡ n
same_number m n h = grind arith

same_lists : (xs ys : List ℕ) → same_numbers xs ys ≡ true → xs ≡ ys
same_lists [] [] h = refl
same_lists [] (y ∷ ys) h = cc
same_lists (x ∷ xs) [] h = cc
same_lists (x ∷ xs) (y ∷ ys) h =
    let e = same_number x y (first_so (x == y) _ h) in
    let f = same_lists xs ys (second_so (x == y) _ h) in
    rw (e, f) refl

or_itself : (v : Bool) → v ≡ (v || v)
or_itself true = refl
or_itself false = refl

-- numbers that are added are among them, the same ones or others
pub among_added : (by : ℕ) (next first : List ℕ) (k : ℕ) → among (up by (added next first)) k
    ≡ (among (up by next) k || among (up by first) k)
among_added by next first k = at (same_numbers next first) refl
  where
    at : (v : Bool) → same_numbers next first ≡ v → among (up by (added next first)) k
        ≡ (among (up by next) k || among (up by first) k)
    at true e =
        let f : next ≡ first = same_lists next first e in
        rw e (or_itself (among (up by next) k)
        ∙ ap (λ ns. among (up by next) k || among (up by ns) k) f)
    at false e = rw e (among_up_append by next first k)
