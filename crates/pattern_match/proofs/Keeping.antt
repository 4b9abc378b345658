-- The bits of a word whose classes have a byte.
use Rattle.std.proofs.Common.{◌≡◌, refl, sym, ◌∙◌, ap, ℕ, ◌-◌, ◌^◌, ◌<◌, ◌==◌, ◌≢◌, Bool, true}
use Rattle.std.proofs.Common.{false, ◌⊎◌, inl, inr, arith, w64}
use Rattle.std.specs.Prelude.{◌||◌, ◌&&◌, bit_and}
use Rattle.std.specs.Int.{bit_at, trailing_zeros}
use Rattle.std.proofs.lemmas.Nat.Bits.{bit_at-trailing_zeros, bit_at-zero}
use Rattle.std.proofs.lemmas.Bool.{cases_eq}
use Rattle.pattern_match.proofs.LowestBits.{lowest_gone, others_stay}

at_lowest : (old test now left all same : Bool) → left ≡ true → now ≡ false → same ≡ true
    → (old || (left && test)) ≡ all → ((old || (test && same)) || (now && test)) ≡ all
at_lowest true test now left all same l n s h = h
at_lowest false true now left all same l n s h = rw s (rw l at h)
at_lowest false false now left all same l n s h = rw n (rw l at h)

elsewhere : (old here test now left all same : Bool) → now ≡ left → same ≡ false
    → (old || (left && test)) ≡ all → ((old || (here && same)) || (now && test)) ≡ all
elsewhere true here test now left all same n s h = h
elsewhere false true test now left all same n s h = rw (s, n) h
elsewhere false false test now left all same n s h = rw n h

-- the word's lowest bit is kept where its class has the byte
pub kept_more : (new old left k : ℕ) (test : ℕ → Bool) (all : Bool) → 0 < left → left < 2 ^ 64
    → (bit_at new k == 1)
    ≡ ((bit_at old k == 1) || (test (trailing_zeros w64 left) && (k == trailing_zeros w64 left)))
    → ((bit_at old k == 1) || ((bit_at left k == 1) && test k)) ≡ all
    → ((bit_at new k == 1) || ((bit_at (bit_and left (left - 1)) k == 1) && test k)) ≡ all
kept_more new old left k test all p l n h = at (cases_eq k (trailing_zeros w64 left))
  where
    at : (k ≡ trailing_zeros w64 left) ⊎ (k ≢ trailing_zeros w64 left)
        → ((bit_at new k == 1) || ((bit_at (bit_and left (left - 1)) k == 1) && test k)) ≡ all
    at (inl e) =
        let b : bit_at left k ≡ 1 = ap (bit_at left) e ∙ (bit_at-trailing_zeros w64 left p l).1 in
        let z : bit_at (bit_and left (left - 1)) k ≡ 0 = ap (bit_at (bit_and left (left - 1))) e
        ∙ lowest_gone left p l in
        let one : (bit_at left k == 1) ≡ true = grind arith in
        let zero : (bit_at (bit_and left (left - 1)) k == 1) ≡ false = grind arith in
        let same : (k == trailing_zeros w64 left) ≡ true = grind arith in
        let m : (bit_at new k == 1)
        ≡ ((bit_at old k == 1) || (test k && (k == trailing_zeros w64 left))) =
        n ∙ ap (λ j. (bit_at old k == 1) || (test j && (k == trailing_zeros w64 left)))
        (sym e) in
        rw m (at_lowest (bit_at old k == 1) (test k) (bit_at (bit_and left (left - 1)) k == 1)
        (bit_at left k == 1) all (k == trailing_zeros w64 left) one zero same h)
    at (inr d) =
        let s : bit_at (bit_and left (left - 1)) k ≡ bit_at left k = others_stay left k p l d in
        let other : (k == trailing_zeros w64 left) ≡ false = grind arith in
        rw n (elsewhere (bit_at old k == 1) (test (trailing_zeros w64 left)) (test k)
        (bit_at (bit_and left (left - 1)) k == 1) (bit_at left k == 1) all
        (k == trailing_zeros w64 left) (ap (λ b. b == 1) s) other h)

pub kept_all : (kept left k : ℕ) (test : Bool) (all : Bool) → left ≡ 0
    → ((bit_at kept k == 1) || ((bit_at left k == 1) && test)) ≡ all → (bit_at kept k == 1) ≡ all
kept_all kept left k test all z h =
    let b : bit_at left k ≡ 0 = ap (λ n. bit_at n k) z ∙ bit_at-zero k in
    let c : (bit_at left k == 1) ≡ false = grind arith in
    at (bit_at kept k == 1) (rw c at h)
  where
    at : (v : Bool) → (v || false) ≡ all → v ≡ all
    at true h = h
    at false h = h

pub none_kept : (word k : ℕ) (test : Bool) → ((bit_at 0 k == 1) || ((bit_at word k == 1) && test))
    ≡ ((bit_at word k == 1) && test)
none_kept word k test = let b : (bit_at 0 k == 1) ≡ false = rw (bit_at-zero k) refl in rw b refl
