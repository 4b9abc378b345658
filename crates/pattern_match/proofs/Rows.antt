-- Rows of bits that are marked one by one, and tables of such rows.
use Rattle.std.proofs.Common.{◌≡◌, refl, sym, ◌∙◌, ap, ℕ, zero, suc, ◌+◌, ◌*◌, ◌/◌, ◌%◌, ◌<◌, ◌≤◌}
use Rattle.std.proofs.Common.{◌≢◌, Bool, false, List, [], ◌∷◌, ◌++◌, length, get_or, Some, ◌⊎◌, inl}
use Rattle.std.proofs.Common.{inr, arith, length-append}
use Rattle.std.specs.Prelude.{slice_get}
use Rattle.std.proofs.lemmas.List.{get_or_append_left, get_or-append-add}
use Rattle.std.proofs.lemmas.Bool.{cases_eq}
use Rattle.pattern_match.specs.States.{bit}
use Rattle.pattern_match.specs.Automaton.{Place}

-- an element that is read is the one at its place
pub get_read : (ps : List Place) (i : ℕ) (p : Place) → i < length ps → p ≡ get_or ps i p
    → slice_get ps i ≡ Some p
get_read [] i p l e = absurd (omega arith)
get_read (q ∷ ps) zero p l e = ap (λ v. Some v) (sym e)
get_read (q ∷ ps) (suc i) p l e = get_read ps i p (omega arith) e

-- bits marked below a number as a test says, and none from there on
pub record IsMarked (row : List ℕ) (words : ℕ) (test : ℕ → Bool) (i : ℕ) : Type 0 where
  pub below : (k : ℕ) → k < i → k < 64 * words → bit row k ≡ test k
  pub above : (k : ℕ) → i ≤ k → k < 64 * words → bit row k ≡ false

-- a table of rows
pub table_old : (table added : List ℕ) (start k : ℕ) → 64 * start + k < 64 * length table
    → bit (table ++ added) (64 * start + k) ≡ bit table (64 * start + k)
table_old table added start k l =
    rw (get_or_append_left table added 0 ((64 * start + k) / 64) (omega arith)) refl

pub table_new : (table row : List ℕ) (k : ℕ) → bit (table ++ row) (64 * length table + k)
    ≡ bit row k
table_new table row k =
    let p : (64 * length table + k) / 64 ≡ length table + k / 64 = omega arith in
    let q : (64 * length table + k) % 64 ≡ k % 64 = omega arith in
    rw (p, q, get_or-append-add table row (k / 64) 0) refl

-- rows of so many words, as many as a number says, each as a test of its number and the bit's
pub record IsTable (table : List ℕ) (width : ℕ) (test : ℕ → ℕ → Bool) (rows : ℕ) : Type 0 where
  pub words : length table ≡ rows * width
  pub bits : (p k : ℕ) → p < rows → k < 64 * width → bit table (64 * (p * width) + k) ≡ test p k

pub row_within : (p rows width : ℕ) → p < rows → p * width + width ≤ rows * width
row_within p rows width l = grind arith

pub table_more : (table row new : List ℕ) (width : ℕ) (test : ℕ → ℕ → Bool) (rows : ℕ)
    → IsTable table width test rows → length row ≡ width
    → ((k : ℕ) → k < 64 * width → bit row k ≡ test rows k) → new ≡ table ++ row
    → IsTable new width test (rows + 1)
table_more table row new width test rows t n h e = record {
  words = ap length e ∙ length-append table row ∙ (let a : length table ≡ rows * width = t.words in
      rw (a, n) (grind arith));
  bits = λ p k l w. rw e (at p k l w (cases_eq p rows));
}
  where
    at : (p k : ℕ) → p < rows + 1 → k < 64 * width → (p ≡ rows) ⊎ (p ≢ rows)
        → bit (table ++ row) (64 * (p * width) + k) ≡ test p k
    at p k l w (inl f) = let a : rows * width ≡ length table = sym t.words in
        rw (f, a) (table_new table row k ∙ h k w)
    at p k l w (inr f) =
        let a : length table ≡ rows * width = t.words in
        let b : p * width + width ≤ rows * width = row_within p rows width (omega arith) in
        table_old table row (p * width) k (omega arith) ∙ t.bits p k (omega arith) w
