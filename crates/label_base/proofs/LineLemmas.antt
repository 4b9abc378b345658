-- The lines of a text, from its first piece on.
use Rattle.std.proofs.Common.{◌≡◌, ◌∙◌, ap, sym, refl, ℕ, ◌==◌, Bool, true, false, cond, List, []}
use Rattle.std.proofs.Common.{◌∷◌, length}
use Rattle.std.specs.List.{slice_split, onto_first}
use Rattle.label_base.specs.Lines.{lines_of, without_empty_last}

onto_cons : (x : ℕ) (pieces : List (List ℕ)) → (y : List ℕ) × (ys : List (List ℕ))
    × (onto_first x pieces ≡ y ∷ ys)
onto_cons x [] = (x ∷ [], [], refl)
onto_cons x (p ∷ ps) = (x ∷ p, ps, refl)

chosen_cons : (v : Bool) (x : ℕ) (pieces : List (List ℕ)) → (y : List ℕ) × (ys : List (List ℕ))
    × (cond v ([] ∷ pieces) (onto_first x pieces) ≡ y ∷ ys)
chosen_cons true x pieces = ([], pieces, refl)
chosen_cons false x pieces = onto_cons x pieces

-- there is a first piece
pub split_cons : (p : ℕ → Bool) (xs : List ℕ) → (y : List ℕ) × (ys : List (List ℕ))
    × (slice_split p xs ≡ y ∷ ys)
split_cons p [] = ([], [], refl)
split_cons p (x ∷ xs) = chosen_cons (p x) x (slice_split p xs)

more_lines : (f y : List ℕ) (ys : List (List ℕ)) → without_empty_last (f ∷ y ∷ ys)
    ≡ f ∷ without_empty_last (y ∷ ys)
more_lines [] y ys = refl
more_lines (b ∷ bs) y ys = refl

pub lines_found : (text f r : List ℕ) → slice_split (λ b. b == 10) text ≡ f ∷ slice_split
    (λ b. b == 10) r → lines_of text ≡ f ∷ lines_of r
lines_found text f r h =
    let c = split_cons (λ b. b == 10) r in
    ap without_empty_last (h ∙ ap (λ ps. f ∷ ps) c.2) ∙ more_lines f c.0 c.1
    ∙ sym (ap (λ ps. f ∷ without_empty_last ps) c.2)

pub lines_last : (text : List ℕ) → (length text == 0) ≡ false → slice_split (λ b. b == 10) text
    ≡ text ∷ [] → lines_of text ≡ text ∷ []
lines_last [] n h = cc
lines_last (b ∷ bs) n h = ap without_empty_last h
