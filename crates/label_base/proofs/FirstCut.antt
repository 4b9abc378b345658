-- Texts cut at the first byte of a value, and texts without it.
use Rattle.std.proofs.Common.{◌≡◌, ◌∙◌, ap, refl, ℕ, zero, suc, ◌+◌, ◌==◌, true, false, List, []}
use Rattle.std.proofs.Common.{◌∷◌, ◌++◌, length, get_or, inl, inr, arith}
use Rattle.std.specs.List.{slice_split}
use Rattle.std.proofs.lemmas.List.{get_or_default}
use Rattle.std.proofs.lemmas.List.Splits.{slice_split_at, slice_split_none, length-slice_split}
use Rattle.std.specs.Prelude.{◌⊎◌, Contains, All, count_by, Some, None}
use Rattle.std.proofs.lemmas.Bool.{eq-eqb, eqb-true, eqb-false, ne_eqb}
use Rattle.std.proofs.lemmas.List.Elements.{Contains-append_right}
use Rattle.label_base.specs.Cut.{front, behind}

pub lacks_nothing : (b : ℕ) → Contains [] b → ⊥
lacks_nothing b (k, within, here) = absurd (omega arith)

pub lacks_first : (b x : ℕ) (xs : List ℕ) → ¬ Contains (x ∷ xs) b → (x == b) ≡ false
lacks_first b x xs h = ne_eqb x b (λ e. h (0, omega arith, e))

pub lacks_others : (b x : ℕ) (xs : List ℕ) → ¬ Contains (x ∷ xs) b → ¬ Contains xs b
lacks_others b x xs h = λ found. h (Contains-append_right (x ∷ []) xs b found)

pub lacks_more : (b x : ℕ) (xs : List ℕ) → (x ≡ b → ⊥) → ¬ Contains xs b → ¬ Contains (x ∷ xs) b
lacks_more b x xs other h (zero, within, here) = other here
lacks_more b x xs other h (suc k, within, here) = h (k, omega arith, here)

pub front_at : (b : ℕ) (xs rest : List ℕ) → ¬ Contains xs b → front (λ x. x == b) (xs ++ b ∷ rest)
    ≡ xs
front_at b [] rest h = rw (eq-eqb b b refl) refl
front_at b (x ∷ xs) rest h =
    rw (lacks_first b x xs h) (ap (λ ys. x ∷ ys) (front_at b xs rest (lacks_others b x xs h)))

pub behind_at : (b : ℕ) (xs rest : List ℕ) → ¬ Contains xs b → behind (λ x. x == b) (xs ++ b ∷ rest)
    ≡ Some rest
behind_at b [] rest h = rw (eq-eqb b b refl) refl
behind_at b (x ∷ xs) rest h =
    rw (lacks_first b x xs h) (behind_at b xs rest (lacks_others b x xs h))

pub behind_none : (b : ℕ) (xs : List ℕ) → ¬ Contains xs b → behind (λ x. x == b) xs ≡ None
behind_none b [] h = refl
behind_none b (x ∷ xs) h = rw (lacks_first b x xs h) (behind_none b xs (lacks_others b x xs h))

pub all_other : (b : ℕ) (xs : List ℕ) → ¬ Contains xs b → All (λ x. (x == b) ≡ false) xs
all_other b xs h =
    λ k d within. ne_eqb (get_or xs k d) b (λ e. h (k, within, get_or_default xs k b d within ∙ e))

pub pieces_at : (b : ℕ) (xs rest : List ℕ) → ¬ Contains xs b
    → slice_split (λ x. x == b) (xs ++ b ∷ rest) ≡ xs ∷ slice_split (λ x. x == b) rest
pieces_at b xs rest h = slice_split_at (λ x. x == b) xs b rest (all_other b xs h) (eq-eqb b b refl)

pub pieces_lacking : (b : ℕ) (xs : List ℕ) → ¬ Contains xs b → slice_split (λ x. x == b) xs
    ≡ xs ∷ []
pieces_lacking b xs h = slice_split_none (λ x. x == b) xs (all_other b xs h)

pub count_lacking : (b : ℕ) (xs : List ℕ) → ¬ Contains xs b → count_by (λ x. x == b) xs ≡ 0
count_lacking b xs h =
    omega (arith, length-slice_split (λ x. x == b) xs, ap length (pieces_lacking b xs h))

pub count_at : (b : ℕ) (xs rest : List ℕ) → ¬ Contains xs b
    → count_by (λ x. x == b) (xs ++ b ∷ rest) ≡ 1 + count_by (λ x. x == b) rest
count_at b xs rest h =
    omega (
      arith,
      length-slice_split (λ x. x == b) (xs ++ b ∷ rest),
      length-slice_split
          (λ x. x == b) rest,
      ap length (pieces_at b xs rest h),
    )

-- a text up to the first such byte, and what stands behind it
pub record IsCut (b : ℕ) (xs : List ℕ) : Type 0 where
  pub first : List ℕ
  pub rest : List ℕ
  pub text : xs ≡ first ++ b ∷ rest
  pub lacks : ¬ Contains first b

cut_more : (b x : ℕ) (xs : List ℕ) → (x ≡ b → ⊥) → (¬ Contains xs b) ⊎ IsCut b xs
    → (¬ Contains (x ∷ xs) b) ⊎ IsCut b (x ∷ xs)
cut_more b x xs other (inl h) = inl (lacks_more b x xs other h)
cut_more b x xs other (inr c) =
    inr (record {
      first = x ∷ c.first;
      rest = c.rest;
      text = ap (λ ys. x ∷ ys) c.text;
      lacks = lacks_more b x c.first other c.lacks;
    })

pub cut : (b : ℕ) (xs : List ℕ) → (¬ Contains xs b) ⊎ IsCut b xs
cut b [] = inl (lacks_nothing b)
cut b (x ∷ xs) =
    elim (x == b) as (λ v. (x == b) ≡ v → (¬ Contains (x ∷ xs) b) ⊎ IsCut b (x ∷ xs)) [
      | true ↦ λ t. inr
          (record {
            first = [];
            rest = xs;
            text = ap (λ y. y ∷ xs) (eqb-true x b t);
            lacks = lacks_nothing b;
          })
      | false ↦ λ f. cut_more b x xs (eqb-false x b f) (cut b xs)
    ] refl
