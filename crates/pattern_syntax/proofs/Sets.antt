-- The bits of the words of a byte set.
use Rattle.std.proofs.Common.{◌≡◌, ◌≢◌, ◌∙◌, sym, refl, ap, subst, ℕ, suc, zero, ◌+◌, ◌*◌, ◌-◌, ◌^◌}
use Rattle.std.proofs.Common.{◌/◌, ◌%◌, ◌<◌, ◌≤◌, Bool, true, false, cond, nat_eq, ⊎_elim, ◌||◌}
use Rattle.std.proofs.Common.{◌&&◌, List, [], ◌∷◌, length, get_or, set, arith, bit_and, bit_or, max}
use Rattle.std.proofs.Common.{min, w64, get_or-set_same, get_or-set_other, filter}
use Rattle.std.specs.Prelude.{not, nat_le, nat_lt, Option, Some, None, MatchOption, is_some}
use Rattle.std.specs.Int.{bit_at}
use Rattle.std.specs.List.{range_with_len}
use Rattle.std.proofs.lemmas.Bool.{cases_eq}
use Rattle.std.proofs.lemmas.Bool.Decides.{nat_tests}
use Rattle.std.proofs.lemmas.Nat.Bits.{bit_at_or, bit_at_and, bit_at_mask_inside, bit_at_not}
use Rattle.std.proofs.lemmas.Nat.Bits.{bit_at-lt, bit_at-zero, bit_at_set_same, bit_at_set_other}
use Rattle.pattern_syntax.specs.ByteSet.{bytes_from, bytes_with, only_of, is_none_of}
use Rattle.pattern_syntax.specs.Classes.{is_text_byte}

abbrev is_one : ℕ → Bool
is_one n = nat_eq n 1

or_same : (b : Bool) → b ≡ (b || b)
or_same true = refl
or_same false = refl

or_true : (b : Bool) → true ≡ (b || true)
or_true true = refl
or_true false = refl

or_false : (b : Bool) → b ≡ (b || false)
or_false true = refl
or_false false = refl

max_test : (x y : ℕ) → x < 2 → y < 2 → is_one (max x y) ≡ (is_one x || is_one y)
max_test zero zero h k = refl
max_test zero (suc zero) h k = refl
max_test (suc zero) zero h k = refl
max_test (suc zero) (suc zero) h k = refl
max_test (suc (suc x)) y h k = absurd (omega arith)
max_test x (suc (suc y)) h k = absurd (omega arith)

pub or_bit : (a b j : ℕ) → is_one (bit_at (bit_or a b) j)
    ≡ (is_one (bit_at a j) || is_one (bit_at b j))
or_bit a b j = ap is_one (bit_at_or a b j) ∙ max_test (bit_at a j) (bit_at b j) (bit_at-lt a j)
    (bit_at-lt b j)

abbrev four : ℕ → ℕ → ℕ → ℕ → List ℕ
four a b c d = a ∷ b ∷ c ∷ d ∷ []

pub four_words : (ws : List ℕ) → length ws ≡ 4 → ws ≡ four (get_or ws 0 0) (get_or ws 1 0)
    (get_or ws 2 0) (get_or ws 3 0)
four_words [] h = absurd (omega arith)
four_words (a ∷ []) h = absurd (omega arith)
four_words (a ∷ b ∷ []) h = absurd (omega arith)
four_words (a ∷ b ∷ c ∷ []) h = absurd (omega arith)
four_words (a ∷ b ∷ c ∷ d ∷ []) h = refl
four_words (a ∷ b ∷ c ∷ d ∷ e ∷ ws) h = absurd (omega arith)

abbrev bit_of : List ℕ → ℕ → ℕ → Bool
bit_of ws i j = is_one (bit_at (get_or ws i 0) j)

union_four : (a b c d e f g h i j : ℕ)
    → bit_of (four (bit_or a e) (bit_or b f) (bit_or c g) (bit_or d h)) i j
    ≡ (bit_of (four a b c d) i j || bit_of (four e f g h) i j)
union_four a b c d e f g h zero j = or_bit a e j
union_four a b c d e f g h (suc zero) j = or_bit b f j
union_four a b c d e f g h (suc (suc zero)) j = or_bit c g j
union_four a b c d e f g h (suc (suc (suc zero))) j = or_bit d h j
union_four a b c d e f g h (suc (suc (suc (suc i)))) j = or_same (is_one (bit_at 0 j))

pub union_bit : (ws vs : List ℕ) (i j : ℕ) → length ws ≡ 4 → length vs ≡ 4
    → bit_of (four (bit_or (get_or ws 0 0) (get_or vs 0 0)) (bit_or (get_or ws 1 0) (get_or vs 1 0))
    (bit_or (get_or ws 2 0) (get_or vs 2 0)) (bit_or (get_or ws 3 0) (get_or vs 3 0))) i j
    ≡ (bit_of ws i j || bit_of vs i j)
union_bit ws vs i j p q =
    union_four (get_or ws 0 0) (get_or ws 1 0) (get_or ws 2 0) (get_or ws 3 0) (get_or vs 0 0)
    (get_or vs 1 0) (get_or vs 2 0) (get_or vs 3 0) i j
    ∙ ap (λ l. bit_of l i j || bit_of
    (four (get_or vs 0 0) (get_or vs 1 0) (get_or vs 2 0) (get_or vs 3 0)) i j)
    (sym (four_words ws p))
    ∙ ap (λ l. bit_of ws i j || bit_of l i j) (sym (four_words vs q))

minus_test : (x : ℕ) → x < 2 → is_one (1 - x) ≡ not (is_one x)
minus_test zero h = refl
minus_test (suc zero) h = refl
minus_test (suc (suc x)) h = absurd (omega arith)

not_bit : (a j : ℕ) → a < 2 ^ 64 → j < 64 → is_one (bit_at (2 ^ 64 - 1 - a) j)
    ≡ not (is_one (bit_at a j))
not_bit a j h k = ap is_one (bit_at_not w64 a j h k) ∙ minus_test (bit_at a j) (bit_at-lt a j)

same_byte : (b c : ℕ) → c / 64 ≡ b / 64 → c % 64 ≡ b % 64 → c ≡ b
same_byte b c p q = omega arith

eqb_same : (b : ℕ) → nat_eq b b ≡ true
eqb_same b = grind (arith, nat_tests)

eqb_other : (b c : ℕ) → c ≢ b → nat_eq c b ≡ false
eqb_other b c h = grind (arith, nat_tests)

with_same_bit : (ws : List ℕ) (b c : ℕ) → b / 64 < length ws → c ≡ b
    → bit_of (set ws (b / 64) (bit_or (get_or ws (b / 64) 0) (1 * 2 ^ (b % 64) % 2 ^ 64))) (c / 64)
    (c % 64) ≡ (bit_of ws (c / 64) (c % 64) || nat_eq c b)
with_same_bit ws b c h e =
    subst (λ d. bit_of (set ws (b / 64) (bit_or (get_or ws (b / 64) 0) (1 * 2 ^ (b % 64) % 2 ^ 64)))
    (d / 64) (d % 64) ≡ (bit_of ws (d / 64) (d % 64) || nat_eq d b)) (sym e)
    (ap (λ w. is_one (bit_at w (b % 64))) (get_or-set_same ws (b / 64) _ 0 h)
    ∙ ap is_one (bit_at_set_same w64 (get_or ws (b / 64) 0) (b % 64) (omega arith))
    ∙ or_true (bit_of ws (b / 64) (b % 64)) ∙ ap (λ t. bit_of ws (b / 64) (b % 64) || t)
    (sym (eqb_same b)))

with_other_bit : (ws : List ℕ) (b c : ℕ) → b / 64 < length ws → c / 64 ≡ b / 64 → c % 64 ≢ b % 64
    → bit_of (set ws (b / 64) (bit_or (get_or ws (b / 64) 0) (1 * 2 ^ (b % 64) % 2 ^ 64))) (c / 64)
    (c % 64) ≡ (bit_of ws (c / 64) (c % 64) || nat_eq c b)
with_other_bit ws b c h e ne =
    ap (λ i. bit_of (set ws (b / 64) (bit_or (get_or ws (b / 64) 0) (1 * 2 ^ (b % 64) % 2 ^ 64))) i
    (c % 64)) e
    ∙ ap (λ w. is_one (bit_at w (c % 64))) (get_or-set_same ws (b / 64) _ 0 h)
    ∙ ap is_one (bit_at_set_other w64 (get_or ws (b / 64) 0) (b % 64) (omega arith) (c % 64) ne)
    ∙ ap (λ i. bit_of ws i (c % 64)) (sym e)
    ∙ or_false (bit_of ws (c / 64) (c % 64)) ∙ ap (λ t. bit_of ws (c / 64) (c % 64) || t)
    (sym (eqb_other b c (λ q. ne (ap (λ n. n % 64) q))))

with_other_word : (ws : List ℕ) (b c w : ℕ) → c / 64 ≢ b / 64
    → bit_of (set ws (b / 64) w) (c / 64) (c % 64) ≡ (bit_of ws (c / 64) (c % 64) || nat_eq c b)
with_other_word ws b c w ne =
    ap (λ w. is_one (bit_at w (c % 64))) (get_or-set_other ws (b / 64) (c / 64) w 0 ne)
    ∙ or_false (bit_of ws (c / 64) (c % 64)) ∙ ap (λ t. bit_of ws (c / 64) (c % 64) || t)
    (sym (eqb_other b c (λ q. ne (ap (λ n. n / 64) q))))

pub with_bit : (ws : List ℕ) (b c : ℕ) → b < 256 → length ws ≡ 4
    → bit_of (set ws (b / 64) (bit_or (get_or ws (b / 64) 0) (1 * 2 ^ (b % 64) % 2 ^ 64))) (c / 64)
    (c % 64) ≡ (bit_of ws (c / 64) (c % 64) || nat_eq c b)
with_bit ws b c h l =
    ⊎_elim (λ e. ⊎_elim (λ f. with_same_bit ws b c (omega arith) (same_byte b c e f))
    (λ ne. with_other_bit ws b c (omega arith) e ne) (cases_eq (c % 64) (b % 64)))
    (λ ne. with_other_word ws b c _ ne) (cases_eq (c / 64) (b / 64))

pub filter_from : (p : ℕ → Bool) (b : ℕ) → b < 256
    → bytes_from p b ≡ cond (p b) (b ∷ bytes_from p (b + 1)) (bytes_from p (b + 1))
filter_from p b h =
    let e : 256 - b ≡ suc (256 - (b + 1)) = omega arith in
    ap (λ n. filter p (range_with_len b n)) e

-- ---- complements

one_le_suc : (j : ℕ) → nat_le 1 (suc j) ≡ true
one_le_suc j = grind (arith, nat_tests)

min_one : (x : ℕ) → x < 2 → is_one (min x 1) ≡ is_one x
min_one zero h = refl
min_one (suc zero) h = refl
min_one (suc (suc x)) h = absurd (omega arith)

min_zero : (x : ℕ) → is_one (min x 0) ≡ false
min_zero x = ap is_one (let e : min x 0 ≡ 0 = omega arith in e)

not_first : (a j : ℕ) → a < 2 ^ 64 → j < 64
    → is_one (bit_at (bit_and (2 ^ 64 - 1 - a) (2 ^ 64 - 2)) j)
    ≡ (nat_le 1 j && not (is_one (bit_at a j)))
not_first a zero h k = ap is_one (bit_at_and (2 ^ 64 - 1 - a) (2 ^ 64 - 2) 0)
    ∙ min_zero (bit_at (2 ^ 64 - 1 - a) 0)
not_first a (suc j) h k =
    ap is_one (bit_at_and (2 ^ 64 - 1 - a) (2 ^ 64 - 2) (suc j))
    ∙ ap (λ m. is_one (min (bit_at (2 ^ 64 - 1 - a) (suc j)) m))
    (bit_at_mask_inside 1 64 (suc j) (omega arith) k)
    ∙ min_one (bit_at (2 ^ 64 - 1 - a) (suc j)) (bit_at-lt (2 ^ 64 - 1 - a) (suc j))
    ∙ not_bit a (suc j) h k ∙ ap (λ t. t && not (is_one (bit_at a (suc j)))) (sym (one_le_suc j))

in_text : (c : ℕ) → 1 ≤ c → c ≤ 255 → is_text_byte c ≡ true
in_text c h k = grind (arith, nat_tests)

past_text : (c : ℕ) → 256 ≤ c → is_text_byte c ≡ false
past_text c h = grind (arith, nat_tests)

first_text : (c : ℕ) → c < 64 → is_text_byte c ≡ nat_le 1 c
first_text c h = grind (arith, nat_tests)

-- the words of a complement, at bit j of word i
pub not_four : (a b c d n i : ℕ) → a < 2 ^ 64 → b < 2 ^ 64 → c < 2 ^ 64 → d < 2 ^ 64 → i ≡ n / 64
    → bit_of (four (bit_and (2 ^ 64 - 1 - a) (2 ^ 64 - 2)) (2 ^ 64 - 1 - b) (2 ^ 64 - 1 - c)
    (2 ^ 64 - 1 - d)) i (n % 64) ≡ (is_text_byte n && not (bit_of (four a b c d) i (n % 64)))
not_four a b c d n zero ha hb hc hd e =
    not_first a (n % 64) ha (omega arith) ∙ ap (λ t. t && not (is_one (bit_at a (n % 64))))
    (ap (nat_le 1) (let q : n % 64 ≡ n = omega arith in q) ∙ sym (first_text n (omega arith)))
not_four a b c d n (suc zero) ha hb hc hd e = not_bit b (n % 64) hb (omega arith)
    ∙ ap (λ t. t && not (is_one (bit_at b (n % 64)))) (sym (in_text n (omega arith) (omega arith)))
not_four a b c d n (suc (suc zero)) ha hb hc hd e = not_bit c (n % 64) hc (omega arith)
    ∙ ap (λ t. t && not (is_one (bit_at c (n % 64)))) (sym (in_text n (omega arith) (omega arith)))
not_four a b c d n (suc (suc (suc zero))) ha hb hc hd e = not_bit d (n % 64) hd (omega arith)
    ∙ ap (λ t. t && not (is_one (bit_at d (n % 64)))) (sym (in_text n (omega arith) (omega arith)))
not_four a b c d n (suc (suc (suc (suc i)))) ha hb hc hd e =
    ap is_one (bit_at-zero (n % 64))
    ∙ ap (λ t. t && not (bit_of (four a b c d) (suc (suc (suc (suc i)))) (n % 64)))
    (sym (past_text n (omega arith)))

pub not_words : (ws : List ℕ) (n : ℕ) → length ws ≡ 4 → get_or ws 0 0 < 2 ^ 64
    → get_or ws 1 0 < 2 ^ 64 → get_or ws 2 0 < 2 ^ 64 → get_or ws 3 0 < 2 ^ 64
    → bit_of (four (bit_and (2 ^ 64 - 1 - get_or ws 0 0) (2 ^ 64 - 2)) (2 ^ 64 - 1 - get_or ws 1 0)
    (2 ^ 64 - 1 - get_or ws 2 0) (2 ^ 64 - 1 - get_or ws 3 0)) (n / 64) (n % 64)
    ≡ (is_text_byte n && not (bit_of ws (n / 64) (n % 64)))
not_words ws n l ha hb hc hd =
    not_four (get_or ws 0 0) (get_or ws 1 0) (get_or ws 2 0) (get_or ws 3 0) n (n / 64) ha hb hc hd
    refl
    ∙ ap (λ l. is_text_byte n && not (bit_of l (n / 64) (n % 64))) (sym (four_words ws l))

-- ---- ranges

pub range_none : (t : Bool) (low n : ℕ) → t ≡ (t || (nat_le low n && nat_lt n low))
range_none t low n = let e : (nat_le low n && nat_lt n low) ≡ false = grind (arith, nat_tests) in
    or_false t ∙ ap (λ r. t || r) (sym e)

more_test : (low b n : ℕ) → low ≤ b → ((nat_le low n && nat_lt n b) || nat_eq n b)
    ≡ (nat_le low n && nat_lt n (b + 1))
more_test low b n h = grind (arith, nat_tests)

pub or_assoc : (x y z : Bool) → ((x || y) || z) ≡ (x || (y || z))
or_assoc true y z = refl
or_assoc false y z = refl

pub range_more : (t : Bool) (low b n : ℕ) → low ≤ b
    → ((t || (nat_le low n && nat_lt n b)) || nat_eq n b)
    ≡ (t || (nat_le low n && nat_lt n (b + 1)))
range_more t low b n h = or_assoc t (nat_le low n && nat_lt n b) (nat_eq n b)
    ∙ ap (λ r. t || r) (more_test low b n h)

all_test : (low high b n : ℕ) → (low ≤ high → b ≡ high + 1) → (high < low → b ≡ low)
    → (nat_le low n && nat_lt n b) ≡ (nat_le low n && nat_le n high)
all_test low high b n h k = grind (arith, nat_tests)

pub range_all : (t : Bool) (low high b n : ℕ) → (low ≤ high → b ≡ high + 1) → (high < low → b ≡ low)
    → (t || (nat_le low n && nat_lt n b)) ≡ (t || (nat_le low n && nat_le n high))
range_all t low high b n h k = ap (λ r. t || r) (all_test low high b n h k)

-- ---- the bytes of a set

bytes_from_one : (p : ℕ → Bool) → bytes_with p ≡ bytes_from p 1
unfolding bytes_with
bytes_from_one p = refl

pub only_none : (p : ℕ → Bool) → bytes_from p 1 ≡ [] → None ≡ only_of (bytes_with p)
only_none p e = ap only_of (sym (bytes_from_one p ∙ e))

pub only_one : (p : ℕ → Bool) (b : ℕ) → bytes_from p 1 ≡ b ∷ bytes_from p (b + 1)
    → bytes_from p (b + 1) ≡ [] → Some b ≡ only_of (bytes_with p)
only_one p b e f = ap only_of (sym (bytes_from_one p ∙ e ∙ ap (λ l. b ∷ l) f))

pub only_more : (p : ℕ → Bool) (b c : ℕ) (cs : List ℕ) → bytes_from p 1 ≡ b ∷ bytes_from p (b + 1)
    → bytes_from p (b + 1) ≡ c ∷ cs → None ≡ only_of (bytes_with p)
only_more p b c cs e f = ap only_of (sym (bytes_from_one p ∙ e ∙ ap (λ l. b ∷ l) f))

pub none_is : (p : ℕ → Bool) (o : Option ℕ) (r : Bool) → is_some o ≡ not r
    → MatchOption o (bytes_from p 1 ≡ []) (λ b. bytes_from p 1 ≡ b ∷ bytes_from p (b + 1))
    → r ≡ is_none_of (bytes_with p)
none_is p None true e h = ap is_none_of (sym (bytes_from_one p ∙ h))
none_is p None false e h = cc
none_is p (Some b) true e h = cc
none_is p (Some b) false e h = ap is_none_of (sym (bytes_from_one p ∙ h))
