-- What a search for a byte says of the pieces between such bytes.
use Rattle.std.proofs.Common.{◌≡◌, ◌∙◌, ap, refl, ℕ, zero, suc, ◌<◌, Bool, false, cond, List, []}
use Rattle.std.proofs.Common.{◌∷◌, length, take, drop, arith}
use Rattle.std.proofs.lemmas.Bool.{false_from_ne_true}
use Rattle.std.specs.List.{slice_split, onto_first}
use Rattle.label_base.specs.Cut.{front, behind}
use Rattle.std.specs.Prelude.{Some, None}
use Rattle.memchr.specs.Find.{Nowhere, Passes}

-- the first piece ends at the first such byte
pub split_first : (p : ℕ → Bool) (xs : List ℕ) (k : ℕ) → k < length xs → Nowhere (Passes p xs) 0 k
    → Passes p xs k → slice_split p xs ≡ take k xs ∷ slice_split p (drop (suc k) xs)
split_first p [] k h f t = absurd (omega arith)
split_first p (x ∷ xs) zero h f t =
    ap (λ v. cond v ([] ∷ slice_split p xs) (onto_first x (slice_split p xs))) t
split_first p (x ∷ xs) (suc k) h f t =
    let first : p x ≡ false = false_from_ne_true (p x) (f 0 (omega arith) (omega arith)) in
    let rest = split_first p xs k (omega arith)
    (λ i low high. f (suc i) (omega arith) (omega arith)) t in
    ap (λ v. cond v ([] ∷ slice_split p xs) (onto_first x (slice_split p xs))) first
    ∙ ap (onto_first x) rest

-- without such a byte there is one piece
pub split_none : (p : ℕ → Bool) (xs : List ℕ) → Nowhere (Passes p xs) 0 (length xs)
    → slice_split p xs ≡ xs ∷ []
split_none p [] f = refl
split_none p (x ∷ xs) f =
    let first : p x ≡ false = false_from_ne_true (p x) (f 0 (omega arith) (omega arith)) in
    let rest = split_none p xs (λ i low high. f (suc i) (omega arith) (omega arith)) in
    ap (λ v. cond v ([] ∷ slice_split p xs) (onto_first x (slice_split p xs))) first
    ∙ ap (onto_first x) rest

pub front_first : (p : ℕ → Bool) (xs : List ℕ) (k : ℕ) → k < length xs → Nowhere (Passes p xs) 0 k
    → Passes p xs k → take k xs ≡ front p xs
front_first p [] k h f t = absurd (omega arith)
front_first p (x ∷ xs) zero h f t = rw t refl
front_first p (x ∷ xs) (suc k) h f t =
    let first : p x ≡ false = false_from_ne_true (p x) (f 0 (omega arith) (omega arith)) in
    rw first (ap (λ ys. x ∷ ys)
    (front_first p xs k (omega arith) (λ i low high. f (suc i) (omega arith) (omega arith)) t))

pub front_none : (p : ℕ → Bool) (xs : List ℕ) → Nowhere (Passes p xs) 0 (length xs)
    → xs ≡ front p xs
front_none p [] f = refl
front_none p (x ∷ xs) f =
    let first : p x ≡ false = false_from_ne_true (p x) (f 0 (omega arith) (omega arith)) in
    rw first (ap (λ ys. x ∷ ys)
    (front_none p xs (λ i low high. f (suc i) (omega arith) (omega arith))))

pub behind_first : (p : ℕ → Bool) (xs : List ℕ) (k : ℕ) → k < length xs → Nowhere (Passes p xs) 0 k
    → Passes p xs k → Some (drop (suc k) xs) ≡ behind p xs
behind_first p [] k h f t = absurd (omega arith)
behind_first p (x ∷ xs) zero h f t = rw t refl
behind_first p (x ∷ xs) (suc k) h f t =
    let first : p x ≡ false = false_from_ne_true (p x) (f 0 (omega arith) (omega arith)) in
    rw first (behind_first p xs k (omega arith)
    (λ i low high. f (suc i) (omega arith) (omega arith)) t)

pub behind_none : (p : ℕ → Bool) (xs : List ℕ) → Nowhere (Passes p xs) 0 (length xs)
    → None ≡ behind p xs
behind_none p [] f = refl
behind_none p (x ∷ xs) f =
    let first : p x ≡ false = false_from_ne_true (p x) (f 0 (omega arith) (omega arith)) in
    rw first (behind_none p xs (λ i low high. f (suc i) (omega arith) (omega arith)))
