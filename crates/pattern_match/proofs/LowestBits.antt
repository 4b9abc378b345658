-- Words taken apart at their lowest bit.
use Rattle.std.proofs.Common.{◌≡◌, refl, sym, ◌∙◌, ap, subst, ℕ, zero, suc, ◌+◌, ◌-◌, ◌*◌, ◌/◌, ◌%◌}
use Rattle.std.proofs.Common.{◌^◌, ◌<◌, ◌≤◌, ◌==◌, ◌≢◌, Bool, true, false, List, length, set}
use Rattle.std.proofs.Common.{get_or, ◌⊎◌, inl, inr, arith, w64}
use Rattle.std.specs.Prelude.{◌||◌, ◌&&◌, bit_and}
use Rattle.std.specs.Int.{bit_at, trailing_zeros}
use native.Mathlib.Numerals.{unary_clauses}
use Rattle.std.proofs.Math.Nat.{le-mul_of_pos_right}
use Rattle.std.proofs.lemmas.Nat.Bits.{bit_at_and, bit_at-zero, bit_at-suc, bit_at_lowest}
use Rattle.std.proofs.lemmas.Nat.Bits.{bit_at-trailing_zeros}
use Rattle.std.proofs.lemmas.List.{get_or-set_same}
use Rattle.std.proofs.lemmas.Bool.{cases_eq, cases_order}
use Rattle.pattern_syntax.proofs.Sets.{or_assoc}
use Rattle.pattern_match.specs.States.{bit}
use Rattle.pattern_match.specs.Tables.{any_under, any_bit}
use Rattle.pattern_match.proofs.WordBits.{bit_in_word}

-- the number below has the same bits above the lowest one, and not that one
same_above : (t n m j : ℕ) → m + 1 ≡ n → bit_at n t ≡ 1 → ((i : ℕ) → i < t → bit_at n i ≡ 0) → t < j
    → bit_at m j ≡ bit_at n j
same_above t n m zero e b z l = absurd (omega arith)
same_above zero n m (suc j) e b z l =
    let o : n % 2 ≡ 1 = sym (bit_at_lowest n) ∙ b in
    let h : m / 2 ≡ n / 2 = omega arith in
    bit_at-suc m j ∙ ap (λ x. bit_at x j) h ∙ sym (bit_at-suc n j)
same_above (suc t) n m (suc j) e b z l =
    let o : n % 2 ≡ 0 = sym (bit_at_lowest n) ∙ z 0 (omega arith) in
    let h : m / 2 + 1 ≡ n / 2 = omega arith in
    bit_at-suc m j ∙ same_above t (n / 2) (m / 2) j h (sym (bit_at-suc n t) ∙ b)
    (λ i u. sym (bit_at-suc n i) ∙ z (suc i) (omega arith)) (omega arith) ∙ sym (bit_at-suc n j)

none_at : (t n m : ℕ) → m + 1 ≡ n → bit_at n t ≡ 1 → ((i : ℕ) → i < t → bit_at n i ≡ 0)
    → bit_at m t ≡ 0
none_at zero n m e b z =
    let o : n % 2 ≡ 1 = sym (bit_at_lowest n) ∙ b in
    let h : m % 2 ≡ 0 = omega arith in
    bit_at_lowest m ∙ h
none_at (suc t) n m e b z =
    let o : n % 2 ≡ 0 = sym (bit_at_lowest n) ∙ z 0 (omega arith) in
    let h : m / 2 + 1 ≡ n / 2 = omega arith in
    bit_at-suc m t ∙ none_at t (n / 2) (m / 2) h (sym (bit_at-suc n t) ∙ b)
    (λ i u. sym (bit_at-suc n i) ∙ z (suc i) (omega arith))

-- without its lowest bit a word has its other bits
pub lowest_gone : (n : ℕ) → 0 < n → n < 2 ^ 64 → bit_at (bit_and n (n - 1)) (trailing_zeros w64 n)
    ≡ 0
lowest_gone n p l =
    let t = bit_at-trailing_zeros w64 n p l in
    let e : n - 1 + 1 ≡ n = omega arith in
    let z : bit_at (n - 1) (trailing_zeros w64 n) ≡ 0 =
    none_at (trailing_zeros w64 n) n (n - 1) e t.1 t.2 in
    bit_at_and n (n - 1) (trailing_zeros w64 n)
    ∙ (let o : bit_at n (trailing_zeros w64 n) ≡ 1 = t.1 in omega arith)

pub others_stay : (n j : ℕ) → 0 < n → n < 2 ^ 64 → j ≢ trailing_zeros w64 n
    → bit_at (bit_and n (n - 1)) j ≡ bit_at n j
others_stay n j p l d = at (cases_order j (trailing_zeros w64 n))
  where
    at : (j ≡ trailing_zeros w64 n) ⊎ ((j < trailing_zeros w64 n) ⊎ (trailing_zeros w64 n < j))
        → bit_at (bit_and n (n - 1)) j ≡ bit_at n j
    at (inl u) = absurd (d u)
    at (inr (inl u)) =
        let z : bit_at n j ≡ 0 = (bit_at-trailing_zeros w64 n p l).2 j u in
        bit_at_and n (n - 1) j ∙ omega arith
    at (inr (inr u)) =
        let t = bit_at-trailing_zeros w64 n p l in
        let e : n - 1 + 1 ≡ n = omega arith in
        let s : bit_at (n - 1) j ≡ bit_at n j = same_above (trailing_zeros w64 n) n (n - 1) j e t.1
        t.2 u in
        bit_at_and n (n - 1) j ∙ omega arith

or_later : (v a b w : Bool) → a ≡ (v || b) → (a || w) ≡ (v || (b || w))
or_later true a b w e = rw e refl
or_later false a b w e = rw e refl

or_last : (a b v w : Bool) → a ≡ b → w ≡ false → (a || v) ≡ (v || (b || w))
or_last a true true w e h = rw e refl
or_last a true false w e h = rw e refl
or_last a false true w e h = rw e refl
or_last a false false w e h = rw e (sym h)

pub same_below : (f g : ℕ → Bool) (n : ℕ) → ((j : ℕ) → j < n → f j ≡ g j)
    → any_under f n ≡ any_under g n
same_below f g zero h = refl
same_below f g (suc n) h = let a = same_below f g n (λ j l. h j (omega arith)) in
    let b = h n (omega arith) in rw (a, b) refl

-- a test that passes at one place more
any_apart : (f g : ℕ → Bool) (t n : ℕ) → t < n → g t ≡ false → ((j : ℕ) → j ≢ t → f j ≡ g j)
    → any_under f n ≡ (f t || any_under g n)
any_apart f g t zero l z h = absurd (omega arith)
any_apart f g t (suc n) l z h = at (cases_eq t n) (λ u. any_apart f g t n u z h)
  where
    at : (t ≡ n) ⊎ (t ≢ n) → (t < n → any_under f n ≡ (f t || any_under g n))
        → (any_under f n || f n) ≡ (f t || (any_under g n || g n))
    at (inl e) ih =
        rw e (or_last (any_under f n) (any_under g n) (f n) (g n)
        (same_below f g n (λ j u. h j (λ v. omega arith))) (subst (λ m. g m ≡ false) e z))
    at (inr e) ih = let b : f n ≡ g n = h n (λ u. e (sym u)) in
        rw b (or_later (f t) (any_under f n) (any_under g n) (g n) (ih (omega arith)))

none_below : (f : ℕ → Bool) (n : ℕ) → ((j : ℕ) → f j ≡ false) → any_under f n ≡ false
none_below f zero h = refl
none_below f (suc n) h = let a = none_below f n h in let b = h n in rw (a, b) refl

not_one : (x : ℕ) → x ≡ 0 → (x == 1) ≡ false
not_one x e = grind arith

is_one : (x : ℕ) → x ≡ 1 → (x == 1) ≡ true
is_one x e = grind arith

-- a word's lowest bit, and the others
pub any_lowest : (n : ℕ) (test : ℕ → Bool) → 0 < n → n < 2 ^ 64
    → any_bit (λ j. (bit_at n j == 1) && test j)
    ≡ (test (trailing_zeros w64 n) || any_bit (λ j. (bit_at (bit_and n (n - 1)) j == 1) && test j))
unfolding any_bit
any_lowest n test p l =
    let t = bit_at-trailing_zeros w64 n p l in
    let o : (bit_at n (trailing_zeros w64 n) == 1) ≡ true = is_one _ t.1 in
    let z : (bit_at (bit_and n (n - 1)) (trailing_zeros w64 n) == 1) ≡ false =
    not_one _ (lowest_gone n p l) in
    let e = any_apart (λ j. (bit_at n j == 1) && test j)
    (λ j. (bit_at (bit_and n (n - 1)) j == 1) && test j) (trailing_zeros w64 n) 64 t.0
    (ap (λ v. v && test (trailing_zeros w64 n)) z)
    (λ j d. ap (λ x. (x == 1) && test j) (sym (others_stay n j p l d))) in
    e ∙ ap (λ v. (v && test (trailing_zeros w64 n)) || any_under
    (λ j. (bit_at (bit_and n (n - 1)) j == 1) && test j) 64) o

-- without a bit there is none
pub any_none : (test : ℕ → Bool) → any_bit (λ j. (bit_at 0 j == 1) && test j) ≡ false
unfolding any_bit
any_none test = none_below (λ j. (bit_at 0 j == 1) && test j) 64
    (λ j. ap (λ v. v && test j) (not_one _ (bit_at-zero j)))

-- some below a number, and some of those behind it
pub any_split : (f : ℕ → Bool) (m n : ℕ)
    → any_under f (m + n) ≡ (any_under f m || any_under (λ j. f (m + j)) n)
any_split f m zero = simp unary_clauses (at (any_under f m))
  where
    at : (v : Bool) → v ≡ (v || false)
    at true = refl
    at false = refl
any_split f m (suc n) = let e = any_split f m n in
    simp unary_clauses (rw e (or_assoc (any_under f m) (any_under (λ j. f (m + j)) n) (f (m + n))))

-- none passes from a number on
pub any_past : (f : ℕ → Bool) (n m : ℕ) → n ≤ m → ((j : ℕ) → n ≤ j → f j ≡ false)
    → any_under f m ≡ any_under f n
any_past f n m l h =
    at (any_split f n (m - n)) (none_below (λ j. f (n + j)) (m - n) (λ j. h (n + j) (omega arith)))
  where
    or_none : (v w : Bool) → w ≡ false → (v || w) ≡ v
    or_none true w h = refl
    or_none false w h = h

    at : any_under f (n + (m - n)) ≡ (any_under f n || any_under (λ j. f (n + j)) (m - n))
        → any_under (λ j. f (n + j)) (m - n) ≡ false → any_under f m ≡ any_under f n
    at e z = let p : n + (m - n) ≡ m = omega arith in ap (any_under f) (sym p) ∙ e ∙ or_none _ _ z

-- the row of a word's lowest bit is added, and those of the others are left
pub row_added : (new old : Bool) (left : ℕ) (test : ℕ → Bool) (all : Bool) → 0 < left
    → left < 2 ^ 64 → new ≡ (old || test (trailing_zeros w64 left))
    → (old || any_bit (λ j. (bit_at left j == 1) && test j)) ≡ all
    → (new || any_bit (λ j. (bit_at (bit_and left (left - 1)) j == 1) && test j)) ≡ all
row_added new old left test all p l n e =
    rw n (or_assoc old (test (trailing_zeros w64 left))
    (any_bit (λ j. (bit_at (bit_and left (left - 1)) j == 1) && test j))
    ∙ ap (λ v. old || v) (sym (any_lowest left test p l)) ∙ e)

pub rows_added : (now : Bool) (left : ℕ) (test : ℕ → Bool) (all : Bool) → left ≡ 0
    → (now || any_bit (λ j. (bit_at left j == 1) && test j)) ≡ all → now ≡ all
rows_added now left test all z e = at now (any_bit (λ j. (bit_at left j == 1) && test j))
    (subst (λ m. any_bit (λ j. (bit_at m j == 1) && test j) ≡ false) (sym z) (any_none test)) ∙ e
  where
    at : (v w : Bool) → w ≡ false → v ≡ (v || w)
    at true w h = refl
    at false w h = sym h

-- without its lowest bit a word has no new one
pub still_marked : (n j : ℕ) → 0 < n → n < 2 ^ 64 → bit_at (bit_and n (n - 1)) j ≡ 1
    → bit_at n j ≡ 1
still_marked n j p l h = at (cases_eq j (trailing_zeros w64 n))
  where
    at : (j ≡ trailing_zeros w64 n) ⊎ (j ≢ trailing_zeros w64 n) → bit_at n j ≡ 1
    at (inl e) = let z : bit_at (bit_and n (n - 1)) j ≡ 0 = rw e (lowest_gone n p l) in
        absurd (omega arith)
    at (inr e) = sym (others_stay n j p l e) ∙ h

word_rows : (marks : List ℕ) (i n : ℕ) (test : ℕ → Bool) → n ≤ 64
    → any_under (λ j. bit marks (64 * i + j) && test (64 * i + j)) n
    ≡ any_under (λ j. (bit_at (get_or marks i 0) j == 1) && test (64 * i + j)) n
word_rows marks i n test l =
    same_below _ _ n (λ j u. ap (λ v. v && test (64 * i + j)) (bit_in_word marks i j (omega arith)))

-- one word more
pub words_more : (marks : List ℕ) (i : ℕ) (test : ℕ → Bool) (new old : Bool)
    → old ≡ any_under (λ p. bit marks p && test p) (64 * i)
    → new ≡ (old || any_bit (λ j. (bit_at (get_or marks i 0) j == 1) && test (64 * i + j)))
    → new ≡ any_under (λ p. bit marks p && test p) (64 * (i + 1))
unfolding any_bit
words_more marks i test new old e n =
    let p : 64 * i + 64 ≡ 64 * (i + 1) = omega arith in
    n ∙ ap (λ v. v || any_under (λ j. (bit_at (get_or marks i 0) j == 1) && test (64 * i + j)) 64) e
    ∙ ap (λ v. any_under (λ p. bit marks p && test p) (64 * i) || v)
    (sym (word_rows marks i 64 test (omega arith)))
    ∙ sym (any_split (λ p. bit marks p && test p) (64 * i) 64)
    ∙ ap (any_under (λ p. bit marks p && test p)) p

pub all_words : (test : ℕ → Bool) (v : Bool) (i n : ℕ) → i ≡ n → v ≡ any_under test (64 * i)
    → v ≡ any_under test (64 * n)
all_words test v i n e h = h ∙ ap (λ m. any_under test (64 * m)) e

-- the number of a marked row is within the table
pub row_number : (r n t : ℕ) → 0 < n → r * n + n ≤ t → r ≤ t
row_number r n t p l = let h = le-mul_of_pos_right {m = n} r p in omega (arith, h)

pub none_reached : (k : ℕ) (rest : Bool) → ((bit_at 0 k == 1) || rest) ≡ rest
none_reached k rest = ap (λ v. v || rest) (not_one (bit_at 0 k) (bit_at-zero k))

same_row : (follow : List ℕ) (n j k : ℕ) → n ≡ 1 → k < 64 → bit follow (64 * (j * n) + k)
    ≡ (bit_at (get_or follow j 0) k == 1)
same_row follow n j k e l =
    let p : (64 * (j * n) + k) / 64 ≡ j = rw e (omega arith) in
    let q : (64 * (j * n) + k) % 64 ≡ k = rw e (omega arith) in
    rw (p, q) refl

same_mark : (marks : List ℕ) (j : ℕ) → j < 64 → bit marks j ≡ (bit_at (get_or marks 0 0) j == 1)
same_mark marks j l =
    let p : j / 64 ≡ 0 = omega arith in
    let q : j % 64 ≡ j = omega arith in
    rw (p, q) refl

one_word : (marks follow : List ℕ) (n k : ℕ) → n ≡ 1 → k < 64
    → any_bit (λ j. (bit_at (get_or marks 0 0) j == 1) && (bit_at (get_or follow j 0) k == 1))
    ≡ any_under (λ p. bit marks p && bit follow (64 * (p * n) + k)) (64 * n)
unfolding any_bit
one_word marks follow n k e l =
    let w : 64 ≡ 64 * n = omega arith in
    sym (same_below (λ p. bit marks p && bit follow (64 * (p * n) + k))
    (λ j. (bit_at (get_or marks 0 0) j == 1) && (bit_at (get_or follow j 0) k == 1)) 64
    (λ j u. ap (λ v. v && bit follow (64 * (j * n) + k)) (same_mark marks j u)
    ∙ ap (λ v. (bit_at (get_or marks 0 0) j == 1) && v) (same_row follow n j k e l)))
    ∙ ap (any_under (λ p. bit marks p && bit follow (64 * (p * n) + k))) w

-- a step where the marks are one word
word_step : (marks follow : List ℕ) (test : ℕ → Bool) (reached kept n k : ℕ) → n ≡ 1
    → n ≡ length marks → k < 64 * n
    → ((i : ℕ) → (bit_at reached i == 1)
    ≡ any_bit (λ j. (bit_at (get_or marks 0 0) j == 1) && (bit_at (get_or follow j 0) i == 1)))
    → (bit_at kept k == 1) ≡ ((bit_at reached k == 1) && test k) → bit (set marks 0 kept) k
    ≡ (any_under (λ p. bit marks p && bit follow (64 * (p * n) + k)) (64 * n) && test k)
word_step marks follow test reached kept n k e f l h t =
    let u : k < 64 = omega arith in
    let g : get_or (set marks 0 kept) 0 0 ≡ kept = get_or-set_same marks 0 kept 0 (omega arith) in
    same_mark (set marks 0 kept) k u
    ∙ ap (λ w. bit_at w k == 1) g
    ∙ t
    ∙ ap (λ v. v && test k) (h k ∙ one_word marks follow n k e u)

pub step_word : (marks inner follow : List ℕ) (test : ℕ → Bool) (word reached kept k : ℕ)
    → inner ≡ marks → word ≡ get_or inner 0 0 → length inner ≡ 1 → k < 64 * length marks
    → ((i : ℕ) → (bit_at reached i == 1)
    ≡ any_bit (λ j. (bit_at word j == 1) && (bit_at (get_or follow j 0) i == 1)))
    → (bit_at kept k == 1) ≡ ((bit_at reached k == 1) && test k) → bit (set inner 0 kept) k
    ≡ (any_under (λ p. bit marks p && bit follow (64 * (p * length marks) + k)) (64 * length marks)
    && test k)
step_word marks inner follow test word reached kept k e w n l h t =
    let m : length marks ≡ 1 = ap length (sym e) ∙ n in
    let v : word ≡ get_or marks 0 0 = w ∙ ap (λ (s : List ℕ). get_or s 0 0) e in
    rw e (word_step marks follow test reached kept (length marks) k m refl l
    (subst (λ x. (i : ℕ) → (bit_at reached i == 1)
    ≡ any_bit (λ j. (bit_at x j == 1) && (bit_at (get_or follow j 0) i == 1))) v h) t)

pub marked_row : (marks inner : List ℕ) (word t j : ℕ) → inner ≡ marks → word ≡ get_or inner 0 0
    → length inner ≡ 1 → ((p : ℕ) → bit marks p ≡ true → p * length marks + length marks ≤ t)
    → j < 64 → bit_at word j ≡ 1 → j < t
marked_row marks inner word t j e w n h l b =
    let m : length marks ≡ 1 = ap length (sym e) ∙ n in
    let v : word ≡ get_or marks 0 0 = w ∙ ap (λ (s : List ℕ). get_or s 0 0) e in
    let c : (bit_at (get_or marks 0 0) j == 1) ≡ true =
    is_one _ (subst (λ x. bit_at x j ≡ 1) v b) in
    let r : j * length marks + length marks ≤ t = h j (same_mark marks j l ∙ c) in
    let q : j * 1 + 1 ≤ t = rw m at r in
    omega arith
