-- The first mark from a place on, looked for word by word.
use Rattle.std.proofs.Common.{◌≡◌, sym, ◌∙◌, ap, subst, ℕ, ◌+◌, ◌-◌, ◌*◌, ◌/◌, ◌%◌, ◌^◌, ◌<◌, ◌≤◌}
use Rattle.std.proofs.Common.{true, false, List, get_or, ◌⊎◌, inl, inr, arith, w64}
use Rattle.std.specs.Int.{bit_at, trailing_zeros}
use Rattle.std.proofs.Math.Nat.{div-eq_of_lt, pow-le-pow_right}
use Rattle.std.proofs.lemmas.Nat.{shr-shr}
use Rattle.std.proofs.lemmas.Nat.Bits.{bit_at-trailing_zeros, bit_at-zero}
use Rattle.std.proofs.lemmas.Bool.{cases_lt, ne_eqb}
use Rattle.pattern_match.specs.States.{bit}
use Rattle.pattern_match.proofs.WordBits.{bit_in_word, bit_of_word}

shifted : (w s t : ℕ) → bit_at (w / 2 ^ s) t ≡ bit_at w (s + t)
shifted w s t = ap (λ n. n % 2) (shr-shr w s t)

-- no bit of a word stands past it
within_word : (w j : ℕ) → w < 2 ^ 64 → bit_at w j ≡ 1 → j < 64
within_word w j l b = at (cases_lt j 64)
  where
    at : (j < 64) ⊎ (64 ≤ j) → j < 64
    at (inl u) = u
    at (inr u) =
        let p : 2 ^ 64 ≤ 2 ^ j = pow-le-pow_right {n = 2} (omega arith) u in
        let z : w / 2 ^ j ≡ 0 = div-eq_of_lt (omega arith) in
        let o : 0 % 2 ≡ 1 = rw z at b in
        absurd (omega arith)

-- an unset bit of what is left of word i behind its first s bits
unset_at : (words : List ℕ) (i s t k : ℕ) → k ≡ 64 * i + (s + t) → s + t < 64
    → bit_at (get_or words i 0 / 2 ^ s) t ≡ 0 → bit words k ≡ false
unset_at words i s t k e l z =
    let n : bit_at (get_or words i 0) (s + t) ≡ 0 = sym (shifted (get_or words i 0) s t) ∙ z in
    ap (bit words) e ∙ bit_in_word words i (s + t) l
    ∙ ne_eqb (bit_at (get_or words i 0) (s + t)) 1 (λ o. omega arith)

-- the first mark of word i from its bit s on
pub record IsFirstIn (words : List ℕ) (i s t : ℕ) : Type 0 where
  pub within : s + t < 64
  pub none : (k : ℕ) → 64 * i + s ≤ k → k < 64 * i + s + t → bit words k ≡ false
  pub marked : bit words (64 * i + s + t) ≡ true

pub first_in : (words : List ℕ) (i s : ℕ) → get_or words i 0 < 2 ^ 64
    → 0 < get_or words i 0 / 2 ^ s → get_or words i 0 / 2 ^ s < 2 ^ 64
    → IsFirstIn words i s (trailing_zeros w64 (get_or words i 0 / 2 ^ s))
first_in words i s l p m =
    let t = trailing_zeros w64 (get_or words i 0 / 2 ^ s) in
    let f = bit_at-trailing_zeros w64 (get_or words i 0 / 2 ^ s) p m in
    let b : bit_at (get_or words i 0) (s + t) ≡ 1 = sym (shifted (get_or words i 0) s t) ∙ f.1 in
    let u : s + t < 64 = within_word (get_or words i 0) (s + t) l b in
    record {
      within = u;
      none = λ k a h. unset_at words i s (k - (64 * i + s)) k (omega arith) (omega arith)
          (f.2 (k - (64 * i + s)) (omega arith));
      marked = subst (λ n. bit words n ≡ true) (omega arith) (bit_of_word words i (s + t) u b);
    }

-- none is left in word i
pub none_in : (words : List ℕ) (i s k : ℕ) → get_or words i 0 / 2 ^ s ≡ 0 → 64 * i + s ≤ k
    → k < 64 * i + 64 → bit words k ≡ false
none_in words i s k z a h = unset_at words i s (k - (64 * i + s)) k (omega arith) (omega arith)
    (rw z (bit_at-zero (k - (64 * i + s))))
