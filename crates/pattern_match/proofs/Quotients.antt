-- Left quotients tell which texts begin one of the language, and what it holds at or below a path.
use Rattle.std.proofs.Common.{◌≡◌, refl, sym, ◌∙◌, ap, ℕ, zero, suc, pred, ◌==◌, Bool, true, false}
use Rattle.std.proofs.Common.{List, [], ◌∷◌, ◌++◌, Some, None, ◌⊎◌, inl, inr, arith}
use Rattle.std.proofs.lemmas.Bool.{or_right, or_cases, or_left}
use Rattle.std.specs.Cmp.{both_ways}
use Rattle.std.specs.Prelude.{if◌then◌else◌}
use Rattle.std.specs.List.{list_any}
use Rattle.file_paths.specs.Path.{Path, path_text}
use Rattle.file_paths.specs.declared.path.TheConstants.{SLASH}
use Rattle.pattern_syntax.specs.Tree.{Tree, Set, Nothing, Both, Either, Repeat}
use Rattle.pattern_syntax.specs.Language.{In, Opens, holds}
use Rattle.pattern_match.specs.Quotients.{nullable, derived, opens, holds_below}
use Rattle.pattern_match.specs.States.{Below}
use Rattle.pattern_match.proofs.Holding.{holds_shows}
use Rattle.pattern_match.proofs.Language.{Steps, both_onto, both_from, both_skip, repeat_onto}
use Rattle.pattern_match.proofs.Language.{repeat_from, has_text, text_of}

-- what a step into the first part leaves is a text of its quotient and then one of the second part
steps_onto : (x y : Tree) (b : ℕ) (t : List ℕ) → ((s : List ℕ) → In x (b ∷ s) → In (derived b x) s)
    → Steps x y b t → In (Both (derived b x) y) t
steps_onto x y b t h (front, rest, e, p, q) = (front, rest, e, h front p, q)

steps_from : (x y : Tree) (b : ℕ) (t : List ℕ) → ((s : List ℕ) → In (derived b x) s → In x (b ∷ s))
    → In (Both (derived b x) y) t → Steps x y b t
steps_from x y b t h (front, rest, e, p, q) = (front, rest, e, h front p, q)

set_onto : (v : Bool) (b c : ℕ) (bytes t : List ℕ) → list_any (λ d. d == b) bytes ≡ v
    → b ∷ t ≡ c ∷ [] → list_any (λ d. d == c) bytes ≡ true → In (if v then Nothing else Set []) t
set_onto true b c bytes t v e h = cc
set_onto false b c bytes t v e h = let g : c ≡ b = cc in let u : false ≡ true =
    sym v ∙ ap (λ x. list_any (λ d. d == x) bytes) (sym g) ∙ h in cc

set_from : (v : Bool) (b : ℕ) (bytes t : List ℕ) → list_any (λ d. d == b) bytes ≡ v
    → In (if v then Nothing else Set []) t → In (Set bytes) (b ∷ t)
set_from true b bytes t v h = (b, ap (λ w. b ∷ w) h, v)
set_from false b bytes t v (c, e, h) = cc

both_behind : (v : Bool) (x y : Tree) (b : ℕ) (t : List ℕ) → nullable x ≡ v
    → Steps x y b t ⊎ ((nullable x ≡ true) × In y (b ∷ t))
    → ((s : List ℕ) → In x (b ∷ s) → In (derived b x) s) → (In y (b ∷ t) → In (derived b y) t)
    → In (if v then Either (Both (derived b x) y) (derived b y) else Both (derived b x) y) t
both_behind true x y b t v (inl h) f g = inl (steps_onto x y b t f h)
both_behind true x y b t v (inr h) f g = inr (g h.1)
both_behind false x y b t v (inl h) f g = steps_onto x y b t f h
both_behind false x y b t v (inr h) f g = let u : false ≡ true = sym v ∙ h.0 in cc

both_before : (v : Bool) (x y : Tree) (b : ℕ) (t : List ℕ) → nullable x ≡ v
    → In (if v then Either (Both (derived b x) y) (derived b y) else Both (derived b x) y) t
    → ((s : List ℕ) → In (derived b x) s → In x (b ∷ s)) → (In (derived b y) t → In y (b ∷ t))
    → In (Both x y) (b ∷ t)
both_before true x y b t v (inl h) f g = both_from x y b t (steps_from x y b t f h)
both_before true x y b t v (inr h) f g = both_skip x y b t v (g h)
both_before false x y b t v h f g = both_from x y b t (steps_from x y b t f h)

pub derived_onto : (t : Tree) (b : ℕ) (text : List ℕ) → In t (b ∷ text) → In (derived b t) text
derived_onto (Set bytes) b text (c, e, h) = set_onto (list_any (λ d. d == b) bytes) b c bytes text
    refl e h
derived_onto Nothing b text h = cc
derived_onto (Both x y) b text h = both_behind (nullable x) x y b text refl (both_onto x y b text h)
    (derived_onto x b) (derived_onto y b text)
derived_onto (Either x y) b text (inl h) = inl (derived_onto x b text h)
derived_onto (Either x y) b text (inr h) = inr (derived_onto y b text h)
derived_onto (Repeat least None x) b text h = steps_onto x (Repeat (pred least) None x) b text
    (derived_onto x b) (repeat_onto least None x b text h)
derived_onto (Repeat least (Some zero) x) b text (zero, l, a, j) = cc
derived_onto (Repeat least (Some zero) x) b text (suc k, l, a, j) = absurd (omega arith)
derived_onto (Repeat least (Some (suc most)) x) b text h =
    steps_onto x (Repeat (pred least) (Some most) x) b text (derived_onto x b)
    (repeat_onto least (Some (suc most)) x b text h)

pub derived_from : (t : Tree) (b : ℕ) (text : List ℕ) → In (derived b t) text → In t (b ∷ text)
derived_from (Set bytes) b text h = set_from (list_any (λ d. d == b) bytes) b bytes text refl h
derived_from Nothing b text (c, e, h) = cc
derived_from (Both x y) b text h = both_before (nullable x) x y b text refl h (derived_from x b)
    (derived_from y b text)
derived_from (Either x y) b text (inl h) = inl (derived_from x b text h)
derived_from (Either x y) b text (inr h) = inr (derived_from y b text h)
derived_from (Repeat least None x) b text h =
    repeat_from least None x b text tt
    (steps_from x (Repeat (pred least) None x) b text (derived_from x b) h)
derived_from (Repeat least (Some zero) x) b text (c, e, h) = cc
derived_from (Repeat least (Some (suc most)) x) b text h =
    repeat_from least (Some (suc most)) x b text (omega arith)
    (steps_from x (Repeat (pred least) (Some most) x) b text (derived_from x b) h)

pub opens_shows : (text : List ℕ) (t : Tree) → (opens t text ≡ true → Opens t text)
    × (Opens t text → opens t text ≡ true)
opens_shows [] t = (λ h. text_of t h, λ h. has_text t h.0 h.1)
opens_shows (b ∷ text) t =
    let r = opens_shows text (derived b t) in (
      λ h. let o = r.0 h in (o.0, derived_from t b (text ++ o.0) o.1),
      λ h. r.1 (h.0, derived_onto t b (text ++ h.0) h.1),
    )

-- the test tells what the language holds at or below a path
pub below_shows : (t : Tree) (path : Path) → (holds_below t path ≡ true → Below t path)
    × (Below t path → holds_below t path ≡ true)
unfolding holds_below
below_shows t [] = opens_shows (SLASH ∷ []) t
below_shows t (name ∷ names) =
    let text = path_text (name ∷ names) in (
      λ h. elim (or_cases (holds t text) _ h) [
        | inl a ↦ inl ((holds_shows t text).0 a)
        | inr b ↦ inr
            ((opens_shows (text ++ SLASH ∷ []) t).0 b)
      ],
      λ h. elim h [
        | inl a ↦ or_left _ _ ((holds_shows t text).1 a)
        | inr b ↦ or_right (holds t text)
            _ ((opens_shows (text ++ SLASH ∷ []) t).1 b)
      ],
    )

-- whatever tells what is at or below a path is that test
pub below_test : (t : Tree) (path : Path) (v : Bool) → (v ≡ true → Below t path)
    × (Below t path → v ≡ true) → v ≡ holds_below t path
below_test t path v h = both_ways v (holds_below t path) (λ e. (below_shows t path).1 (h.0 e))
    (λ e. h.1 ((below_shows t path).0 e))
