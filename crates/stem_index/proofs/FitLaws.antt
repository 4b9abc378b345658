-- Candidates are the texts that fit, the last first.
use Rattle.std.proofs.Common.{◌≡◌, ap, sym, refl, subst, ℕ, zero, suc, ◌<◌, Bool, true, false, cond}
use Rattle.std.proofs.Common.{List, ◌∷◌, length, get_or, arith, ◌⊎◌, inl, inr}
use Rattle.std.specs.List.{AllPairs, Contains}
use Rattle.std.proofs.lemmas.Bool.{true≢false}
use Rattle.std.proofs.lemmas.List.Elements.{Contains-get_or}
use Rattle.stem_index.specs.Fitting.{AreCandidates}
use Rattle.stem_index.specs.Stems.{candidates_below, stem_fits, stem_at}

at_case : (n i : ℕ) (rest : List ℕ) (k : ℕ) → k < length (n ∷ rest) → get_or (n ∷ rest) k i ≡ i
    → (i ≡ n) ⊎ Contains rest i
at_case n i rest zero l e = inl (sym e)
at_case n i rest (suc k) l e = inr (k, omega (arith, l), e)

from_case : (n i : ℕ) (b : Bool) (rest : List ℕ) → Contains (cond b (n ∷ rest) rest) i
    → ((b ≡ true) × (i ≡ n)) ⊎ Contains rest i
from_case n i true rest c =
    elim (at_case n i rest c.0 c.1 c.2) [ inl e ↦ inl (refl, e) | inr t ↦ inr t ]
from_case n i false rest c = inr c

shown : (stems : List (List ℕ)) (name : List ℕ) (n i : ℕ) → Contains (candidates_below stems n name)
    i
    → (i < n) × (stem_fits name (stem_at stems i) ≡ true)
shown stems name zero i c = absurd (let l = c.1 in omega (arith, l))
shown stems name (suc n) i c =
    elim (from_case n i (stem_fits name (stem_at stems n)) (candidates_below stems n name) c) [
      | inl e ↦ (
        let s = e.1 in
            omega (arith, s),
        subst (λ k. stem_fits name (stem_at stems k) ≡ true) (sym e.1) e.0,
      )
      | inr t ↦ let r = shown stems name n i t in (let l = r.0 in omega (arith, l), r.1)
    ]

here : (n : ℕ) (b : Bool) (rest : List ℕ) → b ≡ true → Contains (cond b (n ∷ rest) rest) n
here n true rest e = (0, omega arith, refl)
here n false rest e = absurd (true≢false (sym e))

behind : (n i : ℕ) (b : Bool) (rest : List ℕ) → Contains rest i
    → Contains (cond b (n ∷ rest) rest) i
behind n i true rest c = (suc c.0, let l = c.1 in omega (arith, l), c.2)
behind n i false rest c = c

split : (i n : ℕ) → i < suc n → (i < n) ⊎ (i ≡ n)
split zero zero l = inr refl
split zero (suc n) l = inl (omega arith)
split (suc i) zero l = absurd (omega (arith, l))
split (suc i) (suc n) l =
    elim (split i n (omega (arith, l))) [ inl a ↦ inl (omega (arith, a)) | inr e ↦ inr (ap suc e) ]

listed : (stems : List (List ℕ)) (name : List ℕ) (n i : ℕ) → i < n
    → stem_fits name (stem_at stems i) ≡ true
    → Contains (candidates_below stems n name) i
listed stems name zero i l f = absurd (omega (arith, l))
listed stems name (suc n) i l f = elim (split i n l) [
  | inl a ↦ behind n i (stem_fits name (stem_at stems n)) (candidates_below stems n name)
      (listed stems name n i a f)
  | inr e ↦ subst (Contains (candidates_below stems (suc n) name)) (sym e)
      (here n (stem_fits name (stem_at stems n)) (candidates_below stems n name)
      (subst (λ k. stem_fits name (stem_at stems k) ≡ true) e f))
]

falls_case : (n : ℕ) (b : Bool) (rest : List ℕ) → AllPairs (λ i j. j < i) rest
    → ((j d : ℕ) → j < length rest → get_or rest j d < n)
    → AllPairs (λ i j. j < i) (cond b (n ∷ rest) rest)
falls_case n true rest a f zero zero d l m = absurd (omega arith)
falls_case n true rest a f (suc i) zero d l m = absurd (omega arith)
falls_case n true rest a f zero (suc j) d l m = f j d (omega arith)
falls_case n true rest a f (suc i) (suc j) d l m = a i j d (omega arith) (omega arith)
falls_case n false rest a f i j d l m = a i j d l m

falls : (stems : List (List ℕ)) (name : List ℕ) (n : ℕ)
    → AllPairs (λ i j. j < i) (candidates_below stems n name)
falls stems name zero i j d l m = absurd (omega arith)
falls stems name (suc n) i j d l m =
    falls_case n (stem_fits name (stem_at stems n)) (candidates_below stems n name)
    (falls stems name n)
    (λ k e below. (shown stems name n (get_or (candidates_below stems n name) k e)
    (Contains-get_or (candidates_below stems n name) k e below)).0) i j d l m

pub candidates_are : (stems : List (List ℕ)) (name : List ℕ)
    → AreCandidates stems name (candidates_below stems (length stems) name)
candidates_are stems name = record {
  each = λ i. (shown stems name (length stems) i, λ h. listed stems name (length stems) i h.0 h.1);
  falling = falls stems name (length stems);
}
