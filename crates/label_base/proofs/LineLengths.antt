-- No field of a line, and no line of a text, is longer than the whole, and a text has no more lines
-- than bytes.
use Rattle.std.proofs.Common.{◌≡◌, ◌==◌, ℕ, suc, ◌≤◌, Bool, true, false, cond, List, [], ◌∷◌}
use Rattle.std.proofs.Common.{length, subst, arith}
use Rattle.std.specs.Prelude.{filter}
use Rattle.std.specs.List.{slice_split, onto_first}
use Rattle.label_base.specs.Text.{is_nonempty}
use Rattle.label_base.specs.Lines.{fields_of, is_blank, lines_of, without_empty_last}

-- no piece is longer than n
abbrev AreShort : ℕ → List (List ℕ) → Type 0
AreShort n [] = Unit {0}
AreShort n (piece ∷ pieces) = (length piece ≤ n) × AreShort n pieces

longer : (n : ℕ) (pieces : List (List ℕ)) → AreShort n pieces → AreShort (suc n) pieces
longer n [] h = tt
longer n (piece ∷ pieces) h = (omega (arith, h.0), longer n pieces h.1)

onto : (n x : ℕ) (pieces : List (List ℕ)) → AreShort n pieces
    → AreShort (suc n) (onto_first x pieces)
onto n x [] h = (omega arith, tt)
onto n x (piece ∷ pieces) h = (omega (arith, h.0), longer n pieces h.1)

chosen : (n x : ℕ) (ends : Bool) (pieces : List (List ℕ)) → AreShort n pieces
    → AreShort (suc n) (cond ends ([] ∷ pieces) (onto_first x pieces))
chosen n x true pieces h = (omega arith, longer n pieces h)
chosen n x false pieces h = onto n x pieces h

split_short : (p : ℕ → Bool) (xs : List ℕ) → AreShort (length xs) (slice_split p xs)
split_short p [] = (omega arith, tt)
split_short p (x ∷ xs) = chosen (length xs) x (p x) (slice_split p xs) (split_short p xs)

kept : (n : ℕ) (keep : Bool) (piece : List ℕ) (pieces : List (List ℕ)) → length piece ≤ n
    → AreShort n pieces → AreShort n (cond keep (piece ∷ pieces) pieces)
kept n true piece pieces h t = (h, t)
kept n false piece pieces h t = t

filter_short : (n : ℕ) (q : List ℕ → Bool) (pieces : List (List ℕ)) → AreShort n pieces
    → AreShort n (filter q pieces)
filter_short n q [] h = tt
filter_short n q (piece ∷ pieces) h =
    kept n (q piece) piece (filter q pieces) h.0 (filter_short n q pieces h.1)

without_short : (n : ℕ) (pieces : List (List ℕ)) → AreShort n pieces
    → AreShort n (without_empty_last pieces)
without_short n [] h = tt
without_short n ([] ∷ []) h = tt
without_short n ((b ∷ bs) ∷ []) h = h
without_short n ([] ∷ next ∷ pieces) h = (h.0, without_short n (next ∷ pieces) h.1)
without_short n ((b ∷ bs) ∷ next ∷ pieces) h = (h.0, without_short n (next ∷ pieces) h.1)

pub first_field_short : (line field : List ℕ) (fields : List (List ℕ))
    → fields_of line ≡ field ∷ fields → length field ≤ length line
first_field_short line field fields e =
    (subst (AreShort (length line)) e
    (filter_short (length line) is_nonempty (slice_split is_blank line)
    (split_short is_blank line))).0

pub first_line_short : (text line : List ℕ) (lines : List (List ℕ)) → lines_of text ≡ line ∷ lines
    → length line ≤ length text
first_line_short text line lines e =
    (subst (AreShort (length text)) e
    (without_short (length text) (slice_split (λ b. b == 10) text)
    (split_short (λ b. b == 10) text))).0

-- a byte more makes at most a line more
onto_few : (x n : ℕ) (pieces : List (List ℕ)) → length (without_empty_last pieces) ≤ n
    → length (without_empty_last (onto_first x pieces)) ≤ suc n
onto_few x n [] h = omega arith
onto_few x n (piece ∷ []) h = omega arith
onto_few x n ([] ∷ next ∷ pieces) h = omega (arith, h)
onto_few x n ((b ∷ bs) ∷ next ∷ pieces) h = omega (arith, h)

feed_few : (n : ℕ) (pieces : List (List ℕ)) → length (without_empty_last pieces) ≤ n
    → length (without_empty_last ([] ∷ pieces)) ≤ suc n
feed_few n [] h = omega arith
feed_few n (piece ∷ pieces) h = omega (arith, h)

chosen_few : (x n : ℕ) (ends : Bool) (pieces : List (List ℕ)) → length (without_empty_last pieces)
    ≤ n → length (without_empty_last (cond ends ([] ∷ pieces) (onto_first x pieces))) ≤ suc n
chosen_few x n true pieces h = feed_few n pieces h
chosen_few x n false pieces h = onto_few x n pieces h

pub lines_few : (text : List ℕ) → length (lines_of text) ≤ length text
lines_few [] = omega arith
lines_few (b ∷ bs) = chosen_few b (length bs) (b == 10) (slice_split (λ b. b == 10) bs)
    (lines_few bs)
