-- The label of bytes is the one that they spell.
use Rattle.std.proofs.Common.{◌≡◌, ◌∙◌, ap, sym, refl, subst, ℕ, true, false, cond, List, [], ◌∷◌}
use Rattle.std.proofs.Common.{inl, inr, arith}
use Rattle.std.specs.Prelude.{◌↔◌, Option, Some, None}
use Rattle.std.proofs.lemmas.Slice.Eq.{bytes_eq-Decides}
use Rattle.label_base.specs.Text.{same_bytes}
use Rattle.context_syntax.specs.Context.{ContextValue, context_of}
use Rattle.context_syntax.specs.Label.{label_from, label_of}
use Rattle.context_syntax.specs.LabelGrammar.{IsOdd, SpellsLabel}
use Rattle.context_syntax.specs.declared.label.TheConstants.{NO_LABEL}
use Rattle.context_syntax.specs.declared.label.Label.{Label}
use Rattle.context_syntax.specs.declared.label.Label.TheVariants.{Absent, Odd, Is}
use Rattle.context_syntax.proofs.Spelling.{complete, no_spelling, sound}

is_absent : (bytes : List ℕ) → same_bytes bytes NO_LABEL.now ≡ true → bytes ≡ NO_LABEL.now
is_absent bytes t = (bytes_eq-Decides bytes NO_LABEL.now).0 t

sound_from : (b : ℕ) (bs : List ℕ) (read : Option ContextValue) → context_of (b ∷ bs) ≡ read
    → same_bytes (b ∷ bs) NO_LABEL.now ≡ false → SpellsLabel (b ∷ bs) (label_from (b ∷ bs) read)
sound_from b bs (Some context) e other = sound (b ∷ bs) context e
sound_from b bs None e other = (
  refl,
  record {
    some = omega arith;
    present = λ p. let same = (bytes_eq-Decides (b ∷ bs) NO_LABEL.now).1 p in cc;
    no_context = no_spelling (b ∷ bs) e;
  },
)

label_sound : (bytes : List ℕ) → SpellsLabel bytes (label_of bytes)
label_sound [] = inl refl
label_sound (b ∷ bs) =
    elim (same_bytes (b ∷ bs) NO_LABEL.now) as (λ v. same_bytes (b ∷ bs) NO_LABEL.now ≡ v
    → SpellsLabel (b ∷ bs) (cond v Absent (label_from (b ∷ bs) (context_of (b ∷ bs))))) [
      | true ↦ λ t. inr (is_absent (b ∷ bs) t)
      | false ↦ λ f. sound_from b bs (context_of (b ∷ bs)) refl f
    ] refl

some_is : (b : ℕ) (bs : List ℕ) → same_bytes (b ∷ bs) NO_LABEL.now ≡ false
    → label_of (b ∷ bs) ≡ label_from (b ∷ bs) (context_of (b ∷ bs))
some_is b bs f = ap (λ v. cond v Absent (label_from (b ∷ bs) (context_of (b ∷ bs)))) f

-- the bytes of no label spell no context
no_label : (context : ContextValue) → context_of NO_LABEL.now ≡ Some context → ⊥
no_label context h = cc

context_complete : (bytes : List ℕ) (context : ContextValue) → context_of bytes ≡ Some context
    → label_of bytes ≡ Is context
context_complete [] context h = cc
context_complete (b ∷ bs) context h =
    elim (same_bytes (b ∷ bs) NO_LABEL.now) as (λ v. same_bytes (b ∷ bs) NO_LABEL.now ≡ v
    → label_of (b ∷ bs) ≡ Is context) [
      | true ↦ λ t. absurd (no_label context (ap context_of (sym (is_absent (b ∷ bs) t)) ∙ h))
      | false ↦ λ f. some_is b bs f ∙ ap (label_from (b ∷ bs)) h
    ] refl

odd_from : (bytes odd : List ℕ) (read : Option ContextValue) → context_of bytes ≡ read → odd ≡ bytes
    → IsOdd bytes → label_from bytes read ≡ Odd odd
odd_from bytes odd (Some context) e same h = absurd (h.no_context context (sound bytes context e))
odd_from bytes odd None e same h = ap (λ t. Odd t) (sym same)

odd_complete : (bytes odd : List ℕ) → odd ≡ bytes → IsOdd bytes → label_of bytes ≡ Odd odd
odd_complete [] odd same h = absurd (omega (arith, h.some))
odd_complete (b ∷ bs) odd same h =
    elim (same_bytes (b ∷ bs) NO_LABEL.now) as (λ v. same_bytes (b ∷ bs) NO_LABEL.now ≡ v
    → label_of (b ∷ bs) ≡ Odd odd) [
      | true ↦ λ t. absurd (h.present (is_absent (b ∷ bs) t))
      | false ↦ λ f. some_is b bs f ∙ odd_from (b ∷ bs) odd (context_of (b ∷ bs)) refl same h
    ] refl

label_complete : (bytes : List ℕ) (label : Label) → SpellsLabel bytes label → label_of bytes ≡ label
label_complete bytes Absent (inl none) = ap label_of none
label_complete bytes Absent (inr marked) = ap label_of marked
label_complete bytes (Odd odd) h = odd_complete bytes odd h.0 h.1
label_complete bytes (Is context) h = context_complete bytes context (complete bytes context h)

-- the label of bytes is the one that they spell
pub label_spelled : (bytes : List ℕ) (label : Label) → (label_of bytes ≡ label) ↔ SpellsLabel bytes
    label
label_spelled bytes label =
    (λ read. subst (SpellsLabel bytes) read (label_sound bytes), label_complete bytes label)
