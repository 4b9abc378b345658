-- What the texts tell of a number that is put under one of them.
use Rattle.std.proofs.Common.{◌≡◌, ◌∙◌, ap, sym, refl, ℕ, Bool, true, false, cond, List, [], ◌∷◌}
use Rattle.std.specs.Prelude.{Option, Some}
use Rattle.std.proofs.lemmas.Bool.{true≢false}
use Rattle.std.proofs.lemmas.Slice.Eq.{bytes_eq-Decides}
use Rattle.std.specs.declared.vec.Vec.{Vec}
use Rattle.label_base.specs.NumberUnder.{number_under}
use Rattle.label_base.specs.Text.{same_bytes}

-- a text under which a number is put
under_here : (X : Option ℕ) (n m : ℕ) (b c : Bool) → b ≡ c → cond c (Some n) X ≡ cond b (Some n)
    (cond c (Some m) X)
under_here X n m true true h = refl
under_here X n m false false h = refl
under_here X n m true false h = cc
under_here X n m false true h = cc

under_there : (X : Option ℕ) (n m : ℕ) (b c : Bool) → (b ≡ true → c ≡ true → ⊥)
    → cond c (Some m) (cond b (Some n) X) ≡ cond b (Some n) (cond c (Some m) X)
under_there X n m true true h = absurd (h refl refl)
under_there X n m false true h = refl
under_there X n m true false h = refl
under_there X n m false false h = refl

same_text : (a b : List ℕ) → same_bytes a b ≡ true → a ≡ b
same_text a b h = (bytes_eq-Decides a b).0 h

-- the number goes into the place of the one under the same text, or behind all others
module _ {A : Type 0} (key : Vec ℕ A) (n : ℕ) (put : List (Vec ℕ A × ℕ) → List (Vec ℕ A × ℕ))
    (alone : put [] ≡ (key, n) ∷ [])
    (next : (e : Vec ℕ A × ℕ) (es : List (Vec ℕ A × ℕ))
    → put (e ∷ es) ≡ cond (same_bytes key.items e.0.items) ((e.0, n) ∷ es) (e ∷ put es)) where
  under_by : (e : Vec ℕ A × ℕ) (es : List (Vec ℕ A × ℕ)) (text : List ℕ) (a : Bool)
      → same_bytes key.items e.0.items ≡ a
      → number_under text (put es) ≡ cond (same_bytes text key.items) (Some n)
      (number_under text es)
      → number_under text (cond a ((e.0, n) ∷ es) (e ∷ put es))
      ≡ cond (same_bytes text key.items) (Some n)
      (cond (same_bytes text e.0.items) (Some e.1) (number_under text es))
  under_by e es text true h rest =
      under_here (number_under text es) n e.1 (same_bytes text key.items)
      (same_bytes text e.0.items) (ap (same_bytes text) (same_text key.items e.0.items h))
  under_by e es text false h rest =
      ap (λ o. cond (same_bytes text e.0.items) (Some e.1) o) rest
      ∙ under_there (number_under text es) n e.1 (same_bytes text key.items)
      (same_bytes text e.0.items)
      (λ b c. true≢false
      (sym ((bytes_eq-Decides key.items e.0.items).1 (sym (same_text text key.items b)
      ∙ same_text text e.0.items c)) ∙ h))

  pub under_more : (entries : List (Vec ℕ A × ℕ)) (text : List ℕ) → number_under text (put entries)
      ≡ cond (same_bytes text key.items) (Some n) (number_under text entries)
  under_more [] text = ap (number_under text) alone
  under_more (e ∷ es) text = ap (number_under text) (next e es)
      ∙ under_by e es text (same_bytes key.items e.0.items) refl (under_more es text)
