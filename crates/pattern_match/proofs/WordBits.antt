-- Bits of lists of words.
use Rattle.std.proofs.Common.{◌≡◌, refl, sym, ◌∙◌, ap, subst, ℕ, zero, suc, ◌+◌, ◌*◌, ◌/◌, ◌%◌, ◌^◌}
use Rattle.std.proofs.Common.{◌<◌, ◌≤◌, ◌==◌, ◌≢◌, Bool, true, false, List, length, set, get_or}
use Rattle.std.proofs.Common.{◌⊎◌, inl, inr, arith, w64, min, max}
use Rattle.std.specs.Prelude.{◌||◌, ◌&&◌, bit_and, bit_or}
use Rattle.std.specs.Int.{bit_at, trailing_zeros}
use Rattle.std.proofs.lemmas.List.{get_or-set_same, get_or-set_other, get_or_past}
use Rattle.std.proofs.lemmas.Nat.{and_le_l}
use Rattle.std.proofs.lemmas.Nat.Bits.{bit_at_set_same, bit_at_set_other, bit_at_and, bit_at_or}
use Rattle.std.proofs.lemmas.Nat.Bits.{bit_at-zero, bit_at-lt, bit_at-trailing_zeros}
use Rattle.std.proofs.lemmas.Nat.Bits.{same_from_bits_below}
use Rattle.std.proofs.lemmas.Bool.{or_right, cases_eq, ne_eqb, eq-eqb}
use Rattle.pattern_match.specs.Loops.{IsRow}
use Rattle.pattern_match.specs.States.{bit}
use Rattle.pattern_match.specs.Tables.{any_under}

or_false : (v w : Bool) → w ≡ false → (v || w) ≡ v
or_false true w h = refl
or_false false w h = h

-- a bit set in a word
pub word_bit : (w i j : ℕ) → i < 64 → j < 64
    → (bit_at (bit_or w (1 * 2 ^ i % 18446744073709551616)) j == 1)
    ≡ ((bit_at w j == 1) || (j == i))
word_bit w i j l m = at (cases_eq j i)
  where
    at : (j ≡ i) ⊎ (j ≢ i) → (bit_at (bit_or w (1 * 2 ^ i % 18446744073709551616)) j == 1)
        ≡ ((bit_at w j == 1) || (j == i))
    at (inl e) = rw (or_right (bit_at w j == 1) (j == i) (eq-eqb j i e), e)
        (eq-eqb _ _ (bit_at_set_same w64 w i l))
    at (inr e) = rw (or_false (bit_at w j == 1) (j == i) (ne_eqb j i e))
        (ap (λ n. n == 1) (bit_at_set_other w64 w i l j e))

pub bit_set : (words : List ℕ) (start q : ℕ) → start + q / 64 < length words → (j : ℕ)
    → bit (set words (start + q / 64)
    (bit_or (get_or words (start + q / 64) 0) (1 * 2 ^ (q % 64) % 18446744073709551616))) j
    ≡ (bit words j || (j == 64 * start + q))
bit_set words start q l j = at (cases_eq (j / 64) (start + q / 64))
  where
    new : ℕ
    new = bit_or (get_or words (start + q / 64) 0) (1 * 2 ^ (q % 64) % 18446744073709551616)

    in_word : j / 64 ≡ start + q / 64 → (j == 64 * start + q) ≡ (j % 64 == q % 64)
    in_word e = grind arith

    at : (j / 64 ≡ start + q / 64) ⊎ (j / 64 ≢ start + q / 64)
        → bit (set words (start + q / 64)
        (bit_or (get_or words (start + q / 64) 0) (1 * 2 ^ (q % 64) % 18446744073709551616))) j
        ≡ (bit words j || (j == 64 * start + q))
    at (inl e) =
        let g = get_or-set_same words (start + q / 64)
        (bit_or (get_or words (start + q / 64) 0) (1 * 2 ^ (q % 64) % 18446744073709551616)) 0
        l in
        rw (in_word e, e, g)
        (word_bit (get_or words (start + q / 64) 0) (q % 64) (j % 64) (omega arith)
        (omega arith))
    at (inr e) =
        let n : j ≢ 64 * start + q = λ f. e (let h : j / 64 ≡ start + q / 64 = omega arith in h) in
        rw (
          get_or-set_other words (start + q / 64) (j / 64)
              (bit_or (get_or words (start + q / 64) 0) (1 * 2 ^ (q % 64) % 18446744073709551616)) 0
              e,
          or_false (bit words j) (j == 64 * start + q) (ne_eqb j _ n),
        ) refl

-- no bit stands past the words
pub no_word : (words : List ℕ) (k : ℕ) → 64 * length words ≤ k → bit words k ≡ false
no_word words k l = let g : get_or words (k / 64) 0 ≡ 0 =
    get_or_past words (k / 64) 0 (omega arith) in
    rw g (ne_eqb _ 1 (let z : bit_at 0 (k % 64) ≡ 0 = bit_at-zero (k % 64) in
    rw z (λ e. omega arith)))

pub bit_within : (words : List ℕ) (k : ℕ) → bit words k ≡ true → k < 64 * length words
bit_within words k h = at (grind arith)
  where
    at : (k < 64 * length words) ⊎ (64 * length words ≤ k) → k < 64 * length words
    at (inl l) = l
    at (inr l) = let e : bit words k ≡ false = no_word words k l in let d : true ≡ false =
        sym h ∙ e in cc

max_one : (x y : ℕ) → x < 2 → y < 2 → (max x y == 1) ≡ ((x == 1) || (y == 1))
max_one zero y l m = grind arith
max_one (suc zero) zero l m = refl
max_one (suc zero) (suc zero) l m = refl
max_one (suc zero) (suc (suc y)) l m = absurd (omega arith)
max_one (suc (suc x)) y l m = absurd (omega arith)

place_of : (start k : ℕ) → (64 * start + k) / 64 ≡ start + k / 64
place_of start k = omega arith

rest_of : (start k : ℕ) → (64 * start + k) % 64 ≡ k % 64
rest_of start k = omega arith

pub bit_either : (new old table : List ℕ) (start k : ℕ) → get_or new (k / 64) 0
    ≡ bit_or (get_or old (k / 64) 0) (get_or table (start + k / 64) 0)
    → bit new k ≡ (bit old k || bit table (64 * start + k))
bit_either new old table start k e =
    rw (
      place_of start k,
      rest_of start k,
      e,
      bit_at_or (get_or old (k / 64) 0)
          (get_or table (start + k / 64) 0) (k % 64),
    )
    (max_one (bit_at (get_or old (k / 64) 0) (k % 64))
    (bit_at (get_or table (start + k / 64) 0) (k % 64)) (bit_at-lt _ _) (bit_at-lt _ _))

-- a bit of a row of a table
pub row_bit : (words table : List ℕ) (start k : ℕ) → get_or table (start + k / 64) 0 ≡ get_or words
    (k / 64) 0 → bit table (64 * start + k) ≡ bit words k
row_bit words table start k e = rw (place_of start k, rest_of start k, e) refl

pub word_either : (v w k : ℕ) → (bit_at (bit_or v w) k == 1)
    ≡ ((bit_at v k == 1) || (bit_at w k == 1))
word_either v w k =
    rw (bit_at_or v w k) (max_one (bit_at v k) (bit_at w k) (bit_at-lt _ _) (bit_at-lt _ _))

pub no_bit : (words : List ℕ) (k : ℕ) → get_or words (k / 64) 0 ≡ 0 → bit words k ≡ false
no_bit words k g =
    rw g (ne_eqb _ 1 (let z : bit_at 0 (k % 64) ≡ 0 = bit_at-zero (k % 64) in
    rw z (λ e. omega arith)))

-- a number that isn't 0 has a bit
pub one_bit : (n : ℕ) → n ≢ 0 → n < 2 ^ 64 → (i : ℕ) × (i < 64) × (bit_at n i ≡ 1)
one_bit n z l = let t = bit_at-trailing_zeros w64 n (omega arith) l in
    (trailing_zeros w64 n, t.0, t.1)

pub bit_in_word : (words : List ℕ) (i j : ℕ) → j < 64 → bit words (64 * i + j)
    ≡ (bit_at (get_or words i 0) j == 1)
bit_in_word words i j l =
    let p : (64 * i + j) / 64 ≡ i = omega arith in
    let q : (64 * i + j) % 64 ≡ j = omega arith in
    rw (p, q) refl

pub bit_of_word : (words : List ℕ) (i t : ℕ) → t < 64 → bit_at (get_or words i 0) t ≡ 1
    → bit words (64 * i + t) ≡ true
bit_of_word words i t l e =
    let p : (64 * i + t) / 64 ≡ i = omega arith in
    let q : (64 * i + t) % 64 ≡ t = omega arith in
    rw (p, q, e) refl

pub word_of_bit : (words : List ℕ) (i j : ℕ) → j < 64 → bit words (64 * i + j) ≡ true
    → bit_at (get_or words i 0) j ≡ 1
word_of_bit words i j l h =
    let p : (64 * i + j) / 64 ≡ i = omega arith in
    let q : (64 * i + j) % 64 ≡ j = omega arith in
    let e : (bit_at (get_or words i 0) j == 1) ≡ true = rw (p, q) at h in
    grind arith

same_one : (x y : ℕ) → x < 2 → y < 2 → (x == 1) ≡ (y == 1) → x ≡ y
same_one zero zero l m e = refl
same_one zero (suc zero) l m e = cc
same_one zero (suc (suc y)) l m e = absurd (omega arith)
same_one (suc zero) zero l m e = cc
same_one (suc zero) (suc zero) l m e = refl
same_one (suc zero) (suc (suc y)) l m e = absurd (omega arith)
same_one (suc (suc x)) y l m e = absurd (omega arith)

-- words of a row with the bits of others are those
pub same_word : (words table : List ℕ) (start i : ℕ) → i < length words → get_or table (start + i) 0
    < 2 ^ 64 → get_or words i 0 < 2 ^ 64 → IsRow words table start → get_or table (start + i) 0
    ≡ get_or words i 0
same_word words table start i l m n h = same_from_bits_below 64 (get_or table (start + i) 0)
    (get_or words i 0) m n at
  where
    at : (j : ℕ) → j < 64 → bit_at (get_or table (start + i) 0) j ≡ bit_at (get_or words i 0) j
    at j u =
        let p : 64 * (start + i) + j ≡ 64 * start + (64 * i + j) = omega arith in
        let e : bit table (64 * start + (64 * i + j)) ≡ bit words (64 * i + j) =
        h (64 * i + j) (omega arith) in
        same_one (bit_at (get_or table (start + i) 0) j) (bit_at (get_or words i 0) j)
        (bit_at-lt _ _) (bit_at-lt _ _) (sym (bit_in_word table (start + i) j u)
        ∙ ap (bit table) p ∙ e ∙ bit_in_word words i j u)

least_one : (x y : ℕ) → x < 2 → y < 2 → min x y ≡ 1 → (x ≡ 1) × (y ≡ 1)
least_one x y l m e = (omega arith, omega arith)

both_one : (v w j : ℕ) → bit_at (bit_and v w) j ≡ 1 → (bit_at v j ≡ 1) × (bit_at w j ≡ 1)
both_one v w j e = least_one (bit_at v j) (bit_at w j) (bit_at-lt _ _) (bit_at-lt _ _)
    (sym (bit_at_and v w j) ∙ e)

one_both : (v w j : ℕ) → bit_at v j ≡ 1 → bit_at w j ≡ 1 → bit_at (bit_and v w) j ≡ 1
one_both v w j a b = bit_at_and v w j ∙ rw (a, b) refl

pub any_found : (words : List ℕ) (i : ℕ) → get_or words i 0 ≢ 0 → get_or words i 0 < 2 ^ 64
    → (k : ℕ) × (bit words k ≡ true)
any_found words i z l = let b = one_bit (get_or words i 0) z l in
    (64 * i + b.0, bit_of_word words i b.0 b.1 b.2)

-- a bit that two words have in common is one of either list
pub common_bit : (words others : List ℕ) (i j : ℕ) → j < 64
    → bit_at (bit_and (get_or words i 0) (get_or others i 0)) j ≡ 1
    → (bit words (64 * i + j) ≡ true) × (bit others (64 * i + j) ≡ true)
common_bit words others i j l e =
    let m = both_one (get_or words i 0) (get_or others i 0) j e in
    (bit_of_word words i j l m.0, bit_of_word others i j l m.1)

-- the same for a row of a table and a list
pub row_common_bit : (table words : List ℕ) (start i j : ℕ) → j < 64
    → bit_at (bit_and (get_or table (start + i) 0) (get_or words i 0)) j ≡ 1
    → (bit table (64 * start + (64 * i + j)) ≡ true) × (bit words (64 * i + j) ≡ true)
row_common_bit table words start i j l e =
    let m = both_one (get_or table (start + i) 0) (get_or words i 0) j e in
    let p : 64 * (start + i) + j ≡ 64 * start + (64 * i + j) = omega arith in (
      subst (λ k. bit table k ≡ true) p (bit_of_word table (start + i) j l m.0),
      bit_of_word words i
          j l m.1,
    )

-- and back
pub common_at : (words others : List ℕ) (i j : ℕ) → j < 64 → bit words (64 * i + j) ≡ true
    → bit others (64 * i + j) ≡ true → bit_at (bit_and (get_or words i 0) (get_or others i 0)) j ≡ 1
common_at words others i j l a b = one_both (get_or words i 0) (get_or others i 0) j
    (word_of_bit words i j l a) (word_of_bit others i j l b)

pub row_common_at : (table words : List ℕ) (start i j : ℕ) → j < 64
    → bit table (64 * start + (64 * i + j)) ≡ true → bit words (64 * i + j) ≡ true
    → bit_at (bit_and (get_or table (start + i) 0) (get_or words i 0)) j ≡ 1
row_common_at table words start i j l a b =
    let p : 64 * start + (64 * i + j) ≡ 64 * (start + i) + j = omega arith in
    one_both (get_or table (start + i) 0) (get_or words i 0) j
    (word_of_bit table (start + i) j l (subst (λ k. bit table k ≡ true) p a))
    (word_of_bit words i j l b)

pub common_found : (words others : List ℕ) (i : ℕ) → bit_and (get_or words i 0) (get_or others i 0)
    ≢ 0 → get_or words i 0 < 2 ^ 64 → (k : ℕ) × (bit words k ≡ true) × (bit others k ≡ true)
common_found words others i z l =
    let a = and_le_l (get_or words i 0) (get_or others i 0) in
    let b = one_bit (bit_and (get_or words i 0) (get_or others i 0)) z (omega arith) in
    let m = common_bit words others i b.0 b.1 b.2 in
    (64 * i + b.0, m.0, m.1)

-- without a common bit in any word there is none
pub none_common : (words others : List ℕ) → length words ≡ length others
    → ((i : ℕ) → i < length words → bit_and (get_or words i 0) (get_or others i 0) ≡ 0) → (k : ℕ)
    → bit words k ≡ true → bit others k ≡ true → ⊥
none_common words others n h k b c =
    let l = bit_within words k b in
    let z : bit_and (get_or words (k / 64) 0) (get_or others (k / 64) 0) ≡ 0 =
    h (k / 64) (omega arith) in
    let x : bit_at (get_or words (k / 64) 0) (k % 64) ≡ 1 = grind arith in
    let y : bit_at (get_or others (k / 64) 0) (k % 64) ≡ 1 = grind arith in
    let m : bit_at (bit_and (get_or words (k / 64) 0) (get_or others (k / 64) 0)) (k % 64)
    ≡ min 1 1 = bit_at_and (get_or words (k / 64) 0) (get_or others (k / 64) 0) (k % 64)
    ∙ rw (x, y) refl in
    let w : bit_at 0 (k % 64) ≡ 1 = rw z at m in
    let v : bit_at 0 (k % 64) ≡ 0 = bit_at-zero (k % 64) in
    omega arith

-- what is gathered and then kept
pub step_bits : (marks gathered new shown kept follow : List ℕ) (test : ℕ → Bool) (width k : ℕ)
    → width ≡ length marks → shown ≡ marks → kept ≡ gathered
    → bit gathered k ≡ any_under (λ p. bit shown p && bit follow (64 * (p * width) + k))
    (64 * width) → bit new k ≡ (bit kept k && test k)
    → bit new k ≡ (any_under (λ p. bit marks p && bit follow (64 * (p * length marks) + k))
    (64 * length marks) && test k)
step_bits marks gathered new shown kept follow test width k n e f g h =
    let F : ℕ → Type 0 =
    λ w. bit gathered k ≡ any_under (λ p. bit shown p && bit follow (64 * (p * w) + k))
    (64 * w) in
    let G : List ℕ → Type 0 =
    λ m. bit gathered k ≡ any_under (λ p. bit m p && bit follow (64 * (p * length marks) + k))
    (64 * length marks) in
    let a : bit gathered k
    ≡ any_under (λ p. bit marks p && bit follow (64 * (p * length marks) + k))
    (64 * length marks) = subst G e (subst F n g) in
    h ∙ ap (λ v. v && test k) (ap (λ (w : List ℕ). bit w k) f ∙ a)
