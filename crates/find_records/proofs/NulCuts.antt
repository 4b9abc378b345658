-- A text cut at its first NUL.
use Rattle.std.proofs.Common.{◌≡◌, ◌∙◌, ap, sym, subst, ℕ, List, ◌∷◌, ◌++◌, inl, inr}
use Rattle.std.specs.Prelude.{◌⊎◌, Contains, Option, Some, None}
use Rattle.std.proofs.lemmas.List.Elements.{Contains-append_cases}
use Rattle.label_base.specs.Cut.{front, behind}
use Rattle.label_base.proofs.FirstCut.{IsCut, cut, front_at, behind_at, behind_none}
use Rattle.find_records.specs.declared.reading.TheConstants.{NUL}
use Rattle.find_records.specs.Grammar.{is_nul}

abbrev option_or : List ℕ → Option (List ℕ) → List ℕ
option_or d None = d
option_or d (Some x) = x

abbrev HasValue : Option (List ℕ) → Type 0
HasValue None = ⊥
HasValue (Some x) = Unit {0}

none_some : (x : List ℕ) → Some x ≡ None → ⊥
none_some x h = subst HasValue h tt

ended_by : (text first rest : List ℕ) → first ≡ front is_nul text → Some rest ≡ behind is_nul text
    → (¬ Contains text NUL) ⊎ IsCut NUL text → (text ≡ first ++ NUL ∷ rest) × (¬ Contains first NUL)
ended_by text first rest f b (inl h) = absurd (none_some rest (b ∙ behind_none NUL text h))
ended_by text first rest f b (inr c) =
    let one : first ≡ c.first = f ∙ ap (front is_nul) c.text
    ∙ front_at NUL c.first c.rest c.lacks in
    let two : rest ≡ c.rest =
    ap (option_or rest) (b ∙ ap (behind is_nul) c.text ∙ behind_at NUL c.first c.rest c.lacks)
    in
    (c.text ∙ (λ i. sym one i ++ NUL ∷ sym two i), subst (λ t. ¬ Contains t NUL) (sym one) c.lacks)

-- what stands before the first NUL, and what stands behind it
pub nul_cut : (text first rest : List ℕ) → first ≡ front is_nul text
    → Some rest ≡ behind is_nul text → (text ≡ first ++ NUL ∷ rest) × (¬ Contains first NUL)
nul_cut text first rest f b = ended_by text first rest f b (cut NUL text)

lacking_in : (text : List ℕ) → None ≡ behind is_nul text → (¬ Contains text NUL) ⊎ IsCut NUL text
    → ¬ Contains text NUL
lacking_in text b (inl h) = h
lacking_in text b (inr c) =
    absurd (none_some c.rest
    (sym (b ∙ ap (behind is_nul) c.text ∙ behind_at NUL c.first c.rest c.lacks)))

-- nothing stands behind a NUL where there is none
pub no_nul : (text : List ℕ) → None ≡ behind is_nul text → ¬ Contains text NUL
no_nul text b = lacking_in text b (cut NUL text)

neither : (xs ys : List ℕ) → ¬ Contains xs NUL → ¬ Contains ys NUL → ¬ Contains (xs ++ ys) NUL
neither xs ys h k = λ found. elim (Contains-append_cases xs ys NUL found)
    [ inl left ↦ h left | inr right ↦ k right ]

pub lacking : (xs ys both : List ℕ) → both ≡ xs ++ ys → ¬ Contains xs NUL → ¬ Contains ys NUL
    → ¬ Contains both NUL
lacking xs ys both e h k = subst (λ t. ¬ Contains t NUL) (sym e) (neither xs ys h k)
