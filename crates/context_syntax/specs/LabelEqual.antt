-- The test for equal labels answers for equality, so it is an equivalence.
use Rattle.std.specs.Prelude.{◌≡◌, ℕ, List, [], refl}
use Rattle.std.proofs.Common.{ap, sym, subst}
use Rattle.std.specs.Bool.{Decides}
use Rattle.std.specs.Cmp.{IsEquivalence, decided}
use Rattle.std.proofs.lemmas.Slice.Eq.{bytes_eq-Decides}
use Rattle.context_syntax.specs.Context.{ContextValue}
use Rattle.context_syntax.specs.Equal.{context_decides, never}
use Rattle.context_syntax.specs.Label.{same_label}
use Rattle.context_syntax.specs.declared.label.Label.{Label}
use Rattle.context_syntax.specs.declared.label.Label.TheVariants.{Absent, Odd, Is}

abbrev IsOddLabel : Label → Type 0
IsOddLabel (Odd x) = Unit {0}
IsOddLabel Absent = ⊥
IsOddLabel (Is c) = ⊥

abbrev IsContextLabel : Label → Type 0
IsContextLabel (Is c) = Unit {0}
IsContextLabel Absent = ⊥
IsContextLabel (Odd x) = ⊥

abbrev odd_bytes : Label → List ℕ
odd_bytes (Odd x) = x
odd_bytes Absent = []
odd_bytes (Is c) = []

abbrev context_or : ContextValue → Label → ContextValue
context_or d (Is c) = c
context_or d Absent = d
context_or d (Odd x) = d

pub label_decides : (a b : Label) → Decides (same_label a b) (a ≡ b)
label_decides Absent Absent = (λ _. refl, λ _. refl)
label_decides (Odd x) (Odd y) = (
  λ e. ap (λ t. Odd t) ((bytes_eq-Decides x y).0 e),
  λ e. (bytes_eq-Decides x y).1
      (ap odd_bytes e),
)
label_decides (Is x) (Is y) = (
  λ e. ap (λ t. Is t) ((context_decides x y).0 e),
  λ e. (context_decides x y).1
      (ap (context_or x) e),
)
label_decides Absent (Odd y) = (λ e. absurd (never e), λ e. absurd (subst IsOddLabel (sym e) tt))
label_decides Absent (Is y) = (λ e. absurd (never e), λ e. absurd (subst IsContextLabel (sym e) tt))
label_decides (Odd x) Absent = (λ e. absurd (never e), λ e. absurd (subst IsOddLabel e tt))
label_decides (Odd x) (Is y) = (λ e. absurd (never e), λ e. absurd (subst IsOddLabel e tt))
label_decides (Is x) Absent = (λ e. absurd (never e), λ e. absurd (subst IsContextLabel e tt))
label_decides (Is x) (Odd y) = (λ e. absurd (never e), λ e. absurd (subst IsContextLabel e tt))

pub labels_equiv : IsEquivalence same_label
labels_equiv = decided same_label label_decides
