-- Loops over the bits of a word, and over words, that look for a bit that passes.
use Rattle.std.proofs.Common.{◌≡◌, ◌∙◌, subst, ℕ, ◌+◌, ◌-◌, ◌*◌, ◌/◌, ◌%◌, ◌^◌, ◌<◌, ◌≤◌, Bool}
use Rattle.std.proofs.Common.{true, false, Decides, arith, w64}
use Rattle.std.specs.Prelude.{bit_and}
use Rattle.std.specs.Int.{bit_at, trailing_zeros}
use borrow.Author.Count.{below_more}
use Rattle.std.proofs.lemmas.Bool.Decides.{not_from_Decides}
use Rattle.std.proofs.lemmas.Nat.Bits.{bit_at-trailing_zeros, bit_at-zero}
use Rattle.pattern_match.specs.Loops.{SomeInWord}
use Rattle.pattern_match.proofs.LowestBits.{others_stay, row_number}

-- the row of a word's lowest bit is within the table
pub record LowestRow (left i width size : ℕ) : Type 0 where
  pub number : 64 * i + trailing_zeros w64 left ≤ size
  pub row : (64 * i + trailing_zeros w64 left) * width + width ≤ size

pub lowest_row : (left i width size : ℕ) → 0 < left → left < 2 ^ 64 → 0 < width
    → ((j : ℕ) → j < 64 → bit_at left j ≡ 1 → (64 * i + j) * width + width ≤ size)
    → LowestRow left i width size
lowest_row left i width size p l w rows =
    let t = bit_at-trailing_zeros w64 left p l in
    let r = rows (trailing_zeros w64 left) t.0 t.1 in
    record { number = row_number (64 * i + trailing_zeros w64 left) width size w r; row = r }

module _ (P : ℕ → Type 0) where
  -- where the lowest bit doesn't pass, those that do are among the others
  pub among_others : (left : ℕ) → 0 < left → left < 2 ^ 64 → (P (trailing_zeros w64 left) → ⊥)
      → ((j : ℕ) → j < 64 → P j → bit_at left j ≡ 1) → (j : ℕ) → j < 64 → P j
      → bit_at (bit_and left (left - 1)) j ≡ 1
  among_others left p l not_it all j u x = others_stay left j p l (λ e. not_it (subst P e x))
      ∙ all j u x

  -- where no bit is left, none passes
  pub none_left : (left : ℕ) → left ≡ 0 → ((j : ℕ) → j < 64 → P j → bit_at left j ≡ 1) → (j : ℕ)
      → j < 64 → P j → ⊥
  none_left left z all j u x =
      let o : bit_at 0 j ≡ 1 = subst (λ n. bit_at n j ≡ 1) z (all j u x) in
      let n : bit_at 0 j ≡ 0 = bit_at-zero j in
      omega arith

  -- a bit of one word passes
  pub some_of : (i : ℕ) (v : Bool) → Decides v (SomeInWord P i) → v ≡ true → (p : ℕ) × P p
  some_of i v d e = let s = d.0 e in (64 * i + s.0, s.2)

  -- no bit of one word more does
  pub none_more : (i : ℕ) (v : Bool) → Decides v (SomeInWord P i) → v ≡ false
      → ((k : ℕ) → k < i → (j : ℕ) → j < 64 → P (64 * k + j) → ⊥) → (k : ℕ) → k < i + 1 → (j : ℕ)
      → j < 64 → P (64 * k + j) → ⊥
  none_more i v d e none = below_more (λ k. (j : ℕ) → j < 64 → P (64 * k + j) → ⊥) i none
      (λ j l x. not_from_Decides v d e (j, l, x))

  -- no bit of all words does
  pub none_of : (n : ℕ) → ((k : ℕ) → k < n → (j : ℕ) → j < 64 → P (64 * k + j) → ⊥) → (p : ℕ)
      → p < 64 * n → P p → ⊥
  none_of n none p l x =
      let e : p ≡ 64 * (p / 64) + p % 64 = omega arith in
      none (p / 64) (omega arith) (p % 64) (omega arith) (subst P e x)
