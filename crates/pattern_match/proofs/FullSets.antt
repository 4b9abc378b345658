-- Sets of all bytes that texts have.
use Rattle.std.proofs.Common.{◌≡◌, refl, sym, ◌∙◌, ap, ℕ, zero, suc, ◌+◌, ◌*◌, ◌/◌, ◌%◌, ◌^◌, ◌<◌}
use Rattle.std.proofs.Common.{◌==◌, true, List, get_or, min, max, Decides, arith}
use Rattle.std.specs.Prelude.{bit_and, bit_or}
use Rattle.std.specs.Int.{bit_at}
use Rattle.std.proofs.lemmas.Nat.{and_le_r}
use Rattle.std.proofs.lemmas.Bool.Decides.{Decides-eqb, Decides-like}
use Rattle.std.proofs.lemmas.Nat.Bits.{bit_at_and, bit_at_or, bit_at_ones, bit_at-zero, bit_at-suc}
use Rattle.std.proofs.lemmas.Nat.Bits.{bit_at-lt, same_from_bits_below}
use Rattle.pattern_match.specs.States.{bit}
use Rattle.pattern_match.proofs.WordBits.{word_of_bit}

-- what four words have in common, the first with its lowest bit
abbrev shared : List ℕ → ℕ
shared words =
    bit_and (bit_and (bit_and (bit_or (get_or words 0 0) 1) (get_or words 1 0)) (get_or words 2 0))
    (get_or words 3 0)

either_one : (x y : ℕ) → x < 2 → y ≡ 1 → max x y ≡ 1
either_one x y l e = omega arith

either_first : (x y : ℕ) → y ≡ 0 → max x y ≡ x
either_first x y e = omega arith

one_above : (j : ℕ) → 0 < j → bit_at 1 j ≡ 0
one_above zero p = absurd (omega arith)
one_above (suc j) p = bit_at-suc 1 j ∙ bit_at-zero j

lowest_set : (w : ℕ) → bit_at (bit_or w 1) 0 ≡ 1
lowest_set w = bit_at_or w 1 0 ∙ either_one (bit_at w 0) (bit_at 1 0) (bit_at-lt w 0) refl

above_lowest : (w j : ℕ) → 0 < j → bit_at (bit_or w 1) j ≡ bit_at w j
above_lowest w j p = bit_at_or w 1 j ∙ either_first (bit_at w j) (bit_at 1 j) (one_above j p)

and_four : (x y z w j : ℕ) → bit_at (bit_and (bit_and (bit_and x y) z) w) j
    ≡ min (min (min (bit_at x j) (bit_at y j)) (bit_at z j)) (bit_at w j)
and_four x y z w j =
    bit_at_and (bit_and (bit_and x y) z) w j
    ∙ ap (λ n. min n (bit_at w j)) (bit_at_and (bit_and x y) z j
    ∙ ap (λ n. min n (bit_at z j)) (bit_at_and x y j))

all_one : (x y z w : ℕ) → x < 2 → y < 2 → z < 2 → w < 2 → min (min (min x y) z) w ≡ 1 → (x ≡ 1)
    × (y ≡ 1) × (z ≡ 1) × (w ≡ 1)
all_one x y z w a b c d e = (omega arith, omega arith, omega arith, omega arith)

least_one : (x y z w : ℕ) → x ≡ 1 → y ≡ 1 → z ≡ 1 → w ≡ 1 → min (min (min x y) z) w ≡ 1
least_one x y z w a b c d = omega arith

-- the bits of one place in the words
ones_at : (words : List ℕ) → shared words ≡ 18446744073709551615 → (j : ℕ) → j < 64
    → (bit_at (bit_or (get_or words 0 0) 1) j ≡ 1) × (bit_at (get_or words 1 0) j ≡ 1)
    × (bit_at (get_or words 2 0) j ≡ 1) × (bit_at (get_or words 3 0) j ≡ 1)
ones_at words e j l =
    all_one (bit_at (bit_or (get_or words 0 0) 1) j) (bit_at (get_or words 1 0) j)
    (bit_at (get_or words 2 0) j) (bit_at (get_or words 3 0) j)
    (bit_at-lt _ _) (bit_at-lt _ _) (bit_at-lt _ _) (bit_at-lt _ _)
    (sym (and_four (bit_or (get_or words 0 0) 1) (get_or words 1 0) (get_or words 2 0)
    (get_or words 3 0) j) ∙ ap (λ n. bit_at n j) e ∙ bit_at_ones 64 j l)

full_at : (words : List ℕ) → shared words ≡ 18446744073709551615 → (i j : ℕ) → i < 4 → j < 64
    → 0 < 64 * i + j → bit_at (get_or words i 0) j ≡ 1
full_at words e zero j l m p = sym (above_lowest (get_or words 0 0) j (omega arith))
    ∙ (ones_at words e j m).0
full_at words e (suc zero) j l m p = (ones_at words e j m).1
full_at words e (suc (suc zero)) j l m p = (ones_at words e j m).2
full_at words e (suc (suc (suc zero))) j l m p = (ones_at words e j m).3
full_at words e (suc (suc (suc (suc i)))) j l m p = absurd (omega arith)

full_has : (words : List ℕ) → shared words ≡ 18446744073709551615 → (b : ℕ) → 0 < b → b < 256
    → bit words b ≡ true
full_has words e b p l = let o : bit_at (get_or words (b / 64) 0) (b % 64) ≡ 1 =
    full_at words e (b / 64) (b % 64) (omega arith) (omega arith) (omega arith) in rw o refl

has_full : (words : List ℕ) → get_or words 3 0 < 2 ^ 64
    → ((b : ℕ) → 0 < b → b < 256 → bit words b ≡ true) → shared words ≡ 18446744073709551615
has_full words l h =
    same_from_bits_below 64 (shared words) 18446744073709551615
    (let a = and_le_r (bit_and (bit_and (bit_or (get_or words 0 0) 1) (get_or words 1 0))
    (get_or words 2 0)) (get_or words 3 0) in omega arith) (omega arith)
    (λ j u. and_four (bit_or (get_or words 0 0) 1) (get_or words 1 0) (get_or words 2 0)
    (get_or words 3 0) j
    ∙ least_one (bit_at (bit_or (get_or words 0 0) 1) j) (bit_at (get_or words 1 0) j)
    (bit_at (get_or words 2 0) j) (bit_at (get_or words 3 0) j) (first j u)
    (at 1 j (omega arith) u (omega arith)) (at 2 j (omega arith) u (omega arith))
    (at 3 j (omega arith) u (omega arith))
    ∙ sym (bit_at_ones 64 j u))
  where
    at : (i j : ℕ) → i < 4 → j < 64 → 0 < 64 * i + j → bit_at (get_or words i 0) j ≡ 1
    at i j k u p = word_of_bit words i j u (h (64 * i + j) p (omega arith))

    first : (j : ℕ) → j < 64 → bit_at (bit_or (get_or words 0 0) 1) j ≡ 1
    first zero u = lowest_set (get_or words 0 0)
    first (suc j) u = above_lowest (get_or words 0 0) (suc j) (omega arith)
        ∙ at 0 (suc j) (omega arith) u (omega arith)

-- the words have every bit but the first exactly where all is shared
pub full_shows : (words : List ℕ) → get_or words 3 0 < 2 ^ 64
    → Decides (shared words == 18446744073709551615)
    ((b : ℕ) → 0 < b → b < 256 → bit words b ≡ true)
full_shows words l = Decides-like (shared words == 18446744073709551615) (full_has words)
    (has_full words l) (Decides-eqb (shared words) 18446744073709551615)
