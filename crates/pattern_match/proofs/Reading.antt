-- Texts that are read byte by byte, and paths.
use Rattle.std.proofs.Common.{◌≡◌, refl, sym, ◌∙◌, ap, subst, ℕ, Bool, true, false, List, [], ◌∷◌}
use Rattle.std.proofs.Common.{◌++◌, length, take, drop, ◌⊎◌, inl, inr, arith, append_assoc}
use Rattle.std.proofs.Common.{append-nil}
use Rattle.std.proofs.lemmas.List.{take-append-drop}
use Rattle.file_paths.specs.Path.{Path, path_text}
use Rattle.pattern_syntax.specs.Tree.{Tree}
use Rattle.pattern_syntax.specs.Language.{In, Opens, holds}
use Rattle.pattern_match.specs.States.{Progress, StandsFor, Below}
use Rattle.pattern_match.proofs.Holding.{holds_shows}

-- where no text begins with a front, none begins with the whole
pub dead_front : (t : Tree) (text : List ℕ) (i : ℕ) (v : Bool) → v ≡ false
    → (Opens t (take i text) → v ≡ true) → Opens t text → ⊥
dead_front t text i v e h (rest, m) =
    let p : take i text ++ drop i text ≡ text = take-append-drop i text in
    let q : take i text ++ (drop i text ++ rest) ≡ text ++ rest =
    sym (append_assoc (take i text) (drop i text) rest) ∙ ap (λ w. w ++ rest) p in
    let u : v ≡ true = h (drop i text ++ rest, subst (λ w. In t w) (sym q) m) in
    let c : true ≡ false = sym u ∙ e in cc

-- a text of the language opens it
pub in_opens : (t : Tree) (text : List ℕ) → In t text → Opens t text
in_opens t text h = ([], subst (λ w. In t w) (sym (append-nil text)) h)

pub not_holds : (t : Tree) (text : List ℕ) (v : Bool) → holds t text ≡ v → (Opens t text → ⊥)
    → false ≡ holds t text
not_holds t text true e h = absurd (h (in_opens t text ((holds_shows t text).0 e)))
not_holds t text false e h = sym e

pub less_opens : (t : Tree) (text more : List ℕ) → Opens t (text ++ more) → Opens t text
less_opens t text more (rest, i) =
    (more ++ rest, subst (λ w. In t w) (append_assoc text more rest) i)

-- what is below a path begins with its text
pub below_opens : (t : Tree) (path : Path) → Below t path → Opens t (path_text path)
below_opens t [] h = h
below_opens t (name ∷ names) (inl h) = in_opens t (path_text (name ∷ names)) h
below_opens t (name ∷ names) (inr h) = less_opens t (path_text (name ∷ names)) (47 ∷ []) h

pub below_root : (t : Tree) (path : Path) → length path ≡ 0
    → (Opens t (path_text path) → Below t path) × (Below t path → Opens t (path_text path))
below_root t [] e = (λ h. h, λ h. h)
below_root t (name ∷ names) e = absurd (omega arith)

pub below_names : (t : Tree) (path : Path) → (length path ≡ 0 → ⊥)
    → (In t (path_text path) ⊎ Opens t (path_text path ++ 47 ∷ []) → Below t path)
    × (Below t path → In t (path_text path) ⊎ Opens t (path_text path ++ 47 ∷ []))
below_names t [] e = absurd (e refl)
below_names t (name ∷ names) e = (λ h. h, λ h. h)

-- the last answer on what is below a path other than `/`
pub below_by : (t : Tree) (path : Path) (text : List ℕ) (one two : Progress) (accepted alive : Bool)
    → text ≡ path_text path → (length path ≡ 0 → ⊥) → StandsFor t one text
    → ((x : List ℕ) → StandsFor t one x → (accepted ≡ true → In t x) × (In t x → accepted ≡ true))
    → accepted ≡ false → ((x : List ℕ) → StandsFor t one x → StandsFor t two (x ++ 47 ∷ []))
    → ((x : List ℕ) → StandsFor t two x → (alive ≡ true → Opens t x) × (Opens t x → alive ≡ true))
    → (alive ≡ true → Below t path) × (Below t path → alive ≡ true)
below_by t path text one two accepted alive e n s a f g h =
    let s1 : StandsFor t one (path_text path) = subst (λ w. StandsFor t one w) e s in
    let b = below_names t path n in
    let o = h (path_text path ++ 47 ∷ []) (g (path_text path) s1) in
    (λ v. b.0 (inr (o.0 v)), λ v. at (b.1 v) (a (path_text path) s1).1 o.1)
  where
    at : In t (path_text path) ⊎ Opens t (path_text path ++ 47 ∷ [])
        → (In t (path_text path) → accepted ≡ true)
        → (Opens t (path_text path ++ 47 ∷ []) → alive ≡ true) → alive ≡ true
    at (inl i) p q = let c : true ≡ false = sym (p i) ∙ f in cc
    at (inr i) p q = q i

pub none_below : (t : Tree) (path : Path) (text : List ℕ) → text ≡ path_text path
    → (Opens t text → ⊥) → (false ≡ true → Below t path) × (Below t path → false ≡ true)
none_below t path text e d =
    (λ c. cc, λ b. absurd (d (subst (λ w. Opens t w) (sym e) (below_opens t path b))))

pub root_below : (t : Tree) (path : Path) (text : List ℕ) (states : Progress) (alive : Bool)
    → text ≡ path_text path → length path ≡ 0 → StandsFor t states text
    → ((x : List ℕ) → StandsFor t states x → (alive ≡ true → Opens t x)
    × (Opens t x → alive ≡ true)) → (alive ≡ true → Below t path) × (Below t path → alive ≡ true)
root_below t path text states alive e n s h =
    let o = h text s in
    let b = below_root t path n in
    (λ v. b.0 (subst (λ w. Opens t w) e (o.0 v)), λ v. o.1 (subst (λ w. Opens t w) (sym e) (b.1 v)))

pub accepted_below : (t : Tree) (path : Path) (text : List ℕ) (states : Progress)
    → text ≡ path_text path → (length path ≡ 0 → ⊥) → StandsFor t states text
    → ((x : List ℕ) → StandsFor t states x → (true ≡ true → In t x) × (In t x → true ≡ true))
    → (true ≡ true → Below t path) × (Below t path → true ≡ true)
accepted_below t path text states e n s a =
    (λ v. (below_names t path n).0 (inl (subst (λ w. In t w) e ((a text s).0 refl))), λ v. refl)
