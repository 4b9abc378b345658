-- The elements of a list.
use Rattle.std.proofs.Common.{◌≡◌, ap, refl, subst, ℕ, zero, suc, ◌<◌, Bool, true, false, List, []}
use Rattle.std.proofs.Common.{◌∷◌, ◌++◌, length, map, get_or, arith, ◌⊎◌, inl, inr}
use Rattle.std.proofs.lemmas.Bool.{or_parts}
use Rattle.std.specs.Prelude.{◌||◌}
use Rattle.std.specs.List.{Contains, list_any}

-- the list has the element
abbrev pub Has : {X : Type 0} → List X → X → Type 0
Has [] x = ⊥
Has (y ∷ ys) x = (y ≡ x) ⊎ Has ys x

has_at : {X : Type 0} (xs : List X) (k : ℕ) (x : X) → k < length xs → get_or xs k x ≡ x → Has xs x
has_at [] k x l e = absurd (omega arith)
has_at (y ∷ ys) zero x l e = inl e
has_at (y ∷ ys) (suc k) x l e = inr (has_at ys k x (omega arith) e)

pub has_from_contains : {X : Type 0} (xs : List X) (x : X) → Contains xs x → Has xs x
has_from_contains xs x c = has_at xs c.0 x c.1 c.2

later : {X : Type 0} (y : X) (ys : List X) (x : X) → Contains ys x → Contains (y ∷ ys) x
later y ys x c = (suc c.0, omega arith, c.2)

pub contains_from_has : {X : Type 0} (xs : List X) (x : X) → Has xs x → Contains xs x
contains_from_has [] x h = absurd h
contains_from_has (y ∷ ys) x h =
    elim h [ inl e ↦ (0, omega arith, e) | inr t ↦ later y ys x (contains_from_has ys x t) ]

pub has_push : {X : Type 0} (xs : List X) (y x : X) → Has (xs ++ y ∷ []) x → Has xs x ⊎ (y ≡ x)
has_push [] y x h = elim h [ inl e ↦ inr e | inr t ↦ absurd t ]
has_push (z ∷ xs) y x h =
    elim h [
      | inl e ↦ inl (inl e)
      | inr t ↦ elim (has_push xs y x t)
          [ inl a ↦ inl (inr a) | inr b ↦ inr b ]
    ]

pub has_map : {X Y : Type 0} (f : X → Y) (xs : List X) (x : X) → Has xs x → Has (map f xs) (f x)
has_map f [] x h = absurd h
has_map f (y ∷ xs) x h = elim h [ inl e ↦ inl (ap f e) | inr t ↦ inr (has_map f xs x t) ]

-- an element of a map comes from one of the list
pub from_map : {X Y : Type 0} (f : X → Y) (xs : List X) (y : Y) → Has (map f xs) y → (x : X)
    × Has xs x × (f x ≡ y)
from_map f [] y h = absurd h
from_map f (z ∷ xs) y h =
    elim h [ inl e ↦ (z, inl refl, e) | inr t ↦ (let p = from_map f xs y t in (p.0, inr p.1, p.2)) ]

passes : {X : Type 0} (p : X → Bool) (x : X) (xs : List X) (v : Bool) → p x ≡ v
    → (v || list_any p xs) ≡ true → (list_any p xs ≡ true → (y : X) × Has xs y × (p y ≡ true))
    → (y : X) × Has (x ∷ xs) y × (p y ≡ true)
passes p x xs true e h f = (x, inl refl, e)
passes p x xs false e h f = let r = f h in (r.0, inr r.1, r.2)

-- one that passes
pub any_has : {X : Type 0} (p : X → Bool) (xs : List X) → list_any p xs ≡ true → (y : X) × Has xs y
    × (p y ≡ true)
any_has p [] h = cc
any_has p (x ∷ xs) h = passes p x xs (p x) refl h (any_has p xs)

-- none passes
pub none_has : {X : Type 0} (p : X → Bool) (xs : List X) (y : X) → list_any p xs ≡ false → Has xs y
    → p y ≡ false
none_has p [] y n h = absurd h
none_has p (x ∷ xs) y n h =
    let both = or_parts (p x) (list_any p xs) n in
    elim h [ inl e ↦ subst (λ z. p z ≡ false) e both.0 | inr t ↦ none_has p xs y both.1 t ]
