-- The tests for equal contexts and labels answer for equality, so they are equivalences.
use Rattle.std.specs.Prelude.{◌≡◌, ℕ, Bool, true, false, ◌&&◌, List, [], Option, Some, None, refl}
use Rattle.std.proofs.Common.{◌∙◌, ap, sym, subst}
use Rattle.std.specs.Bool.{Decides}
use Rattle.std.specs.Cmp.{IsEquivalence, decided}
use Rattle.std.proofs.lemmas.Slice.Eq.{bytes_eq-Decides}
use Rattle.context_syntax.specs.Context.{ContextValue, same_option, same_context, same_but_user}

abbrev pub Holds : Bool → Type 0
Holds true = Unit {0}
Holds false = ⊥

pub never : false ≡ true → ⊥
never e = subst Holds (sym e) tt

pub both_hold : (x y : Bool) → (x && y) ≡ true → (x ≡ true) × (y ≡ true)
both_hold true y h = (refl, h)
both_hold false y h = absurd (never h)

and_true : (x y : Bool) → x ≡ true → y ≡ true → (x && y) ≡ true
and_true x y p q = ap (λ v. v && y) p ∙ q

abbrev HasContextValue : Option (List ℕ) → Type 0
HasContextValue None = ⊥
HasContextValue (Some x) = Unit {0}

abbrev value_or_none : Option (List ℕ) → List ℕ
value_or_none None = []
value_or_none (Some x) = x

pub option_decides : (x y : Option (List ℕ)) → Decides (same_option x y) (x ≡ y)
option_decides None None = (λ _. refl, λ _. refl)
option_decides None (Some y) =
    (λ e. absurd (never e), λ e. absurd (subst HasContextValue (sym e) tt))
option_decides (Some x) None = (λ e. absurd (never e), λ e. absurd (subst HasContextValue e tt))
option_decides (Some x) (Some y) = (
  λ e. ap (λ t. Some t) ((bytes_eq-Decides x y).0 e),
  λ e. (bytes_eq-Decides x y).1
      (ap value_or_none e),
)

same_parts : (a b : ContextValue) → a.user ≡ b.user → a.role ≡ b.role → a.kind ≡ b.kind
    → a.range ≡ b.range → a ≡ b
same_parts a b u r k n = λ i. record { user = u i; role = r i; kind = k i; range = n i }

but_user_itself : (a : ContextValue) → same_but_user a a ≡ true
but_user_itself a =
    and_true _ _ (and_true _ _ ((bytes_eq-Decides a.role a.role).1 refl)
    ((bytes_eq-Decides a.kind a.kind).1 refl)) ((option_decides a.range a.range).1 refl)

pub but_user_decides : (a b : ContextValue)
    → Decides (same_but_user a b) (record b { user = a.user } ≡ a)
but_user_decides a b = (
  λ e.
      let upper = both_hold _ _ e in
      let middle = both_hold _ _ upper.0 in
      same_parts (record b { user = a.user }) a refl
      (sym ((bytes_eq-Decides a.role b.role).0 middle.0))
      (sym ((bytes_eq-Decides a.kind b.kind).0 middle.1))
      (sym ((option_decides a.range b.range).0 upper.1)),
  λ e. subst (λ c. same_but_user a c ≡ true) (sym e) (but_user_itself a),
)

itself : (a : ContextValue) → same_context a a ≡ true
itself a =
    and_true _ _ (and_true _ _
    (and_true _ _ ((bytes_eq-Decides a.user a.user).1 refl)
    ((bytes_eq-Decides a.role a.role).1 refl)) ((bytes_eq-Decides a.kind a.kind).1 refl))
    ((option_decides a.range a.range).1 refl)

pub context_decides : (a b : ContextValue) → Decides (same_context a b) (a ≡ b)
context_decides a b = (
  λ e.
      let upper = both_hold _ _ e in
      let middle = both_hold _ _ upper.0 in
      let lower = both_hold _ _ middle.0 in
      same_parts a b ((bytes_eq-Decides a.user b.user).0 lower.0)
      ((bytes_eq-Decides a.role b.role).0 lower.1) ((bytes_eq-Decides a.kind b.kind).0 middle.1)
      ((option_decides a.range b.range).0 upper.1),
  λ e. subst (λ c. same_context a c ≡ true) e (itself a),
)

pub contexts_equiv : IsEquivalence same_context
contexts_equiv = decided same_context context_decides
