-- Rows that are linked, one after the other.
use Rattle.std.proofs.Common.{◌≡◌, ◌≢◌, sym, ◌∙◌, ap, subst, ℕ, ◌-◌, ◌^◌, ◌<◌, ◌==◌, Bool, true}
use Rattle.std.proofs.Common.{false, List, length, get_or, set, ◌⊎◌, inl, inr, w64}
use Rattle.std.specs.Prelude.{◌||◌, ◌&&◌, bit_and, bit_or}
use Rattle.std.specs.Int.{bit_at, trailing_zeros}
use Rattle.std.proofs.lemmas.List.{get_or-set_same, get_or-set_other}
use Rattle.std.proofs.lemmas.Bool.{cases_eq}
use Rattle.std.proofs.lemmas.Nat.Bits.{bit_at-trailing_zeros, bit_at-zero}
use Rattle.pattern_match.specs.Segments.{in_word}
use Rattle.pattern_match.proofs.WordBits.{word_either}
use Rattle.pattern_match.proofs.LowestBits.{lowest_gone, others_stay}

first_linked : (row first all : Bool) (new left old : Bool) → left ≡ false → old ≡ true
    → new ≡ (row || first) → (row || (old && first)) ≡ all → (new || (left && first)) ≡ all
first_linked row first all new left old e f n h =
    rw (e, n) (at row first (subst (λ v. (row || (v && first)) ≡ all) f h))
  where
    at : (row first : Bool) → (row || first) ≡ all → ((row || first) || false) ≡ all
    at true first h = h
    at false true h = h
    at false false h = h

pub link_more : (rows : List ℕ) (left first word p k : ℕ) (all : Bool) → 0 < left → left < 2 ^ 64
    → trailing_zeros w64 left < length rows → word ≡ get_or rows (trailing_zeros w64 left) 0
    → (in_word (get_or rows p 0) k || (in_word left p && in_word first k)) ≡ all
    → (in_word (get_or (set rows (trailing_zeros w64 left) (bit_or word first)) p 0) k
    || (in_word (bit_and left (left - 1)) p && in_word first k)) ≡ all
link_more rows left first word p k all z l m w h = at (cases_eq p (trailing_zeros w64 left))
  where
    at : (p ≡ trailing_zeros w64 left) ⊎ (p ≢ trailing_zeros w64 left)
        → (in_word (get_or (set rows (trailing_zeros w64 left) (bit_or word first)) p 0) k
        || (in_word (bit_and left (left - 1)) p && in_word first k)) ≡ all
    at (inl e) =
        let g : get_or (set rows (trailing_zeros w64 left) (bit_or word first)) p 0 ≡ bit_or word
        first = ap (λ i. get_or (set rows (trailing_zeros w64 left) (bit_or word first)) i 0) e
        ∙ get_or-set_same rows (trailing_zeros w64 left) (bit_or word first) 0 m in
        let b : word ≡ get_or rows p 0 = w ∙ ap (λ i. get_or rows i 0) (sym e) in
        first_linked (in_word (get_or rows p 0) k) (in_word first k) all _
        (in_word (bit_and left (left - 1)) p) (in_word left p)
        (ap (λ i. in_word (bit_and left (left - 1)) i) e ∙ ap (λ n. n == 1) (lowest_gone left z l))
        (ap (in_word left) e ∙ ap (λ n. n == 1) (bit_at-trailing_zeros w64 left z l).1)
        (ap (λ i. in_word i k) g ∙ word_either word first k
        ∙ ap (λ i. in_word i k || in_word first k) b)
        h
    at (inr e) =
        let g : get_or (set rows (trailing_zeros w64 left) (bit_or word first)) p 0 ≡ get_or rows p
        0 = get_or-set_other rows (trailing_zeros w64 left) p (bit_or word first) 0 e in
        let f : bit_at (bit_and left (left - 1)) p ≡ bit_at left p = others_stay left p z l e in
        ap (λ i. in_word i k || (in_word (bit_and left (left - 1)) p && in_word first k)) g
        ∙ ap (λ n. in_word (get_or rows p 0) k || ((n == 1) && in_word first k)) f
        ∙ h

pub all_linked : (rows : List ℕ) (left first p k : ℕ) (all : Bool) → left ≡ 0
    → (in_word (get_or rows p 0) k || (in_word left p && in_word first k)) ≡ all
    → in_word (get_or rows p 0) k ≡ all
all_linked rows left first p k all e h = at (in_word (get_or rows p 0) k) (in_word left p)
    (ap (λ n. in_word n p) e ∙ ap (λ n. n == 1) (bit_at-zero p)) h
  where
    at : (v w : Bool) → w ≡ false → (v || (w && in_word first k)) ≡ all → v ≡ all
    at true w e h = h
    at false w e h = subst (λ x. (x && in_word first k) ≡ all) e h
