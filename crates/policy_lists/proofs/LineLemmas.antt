-- Lines by their indices, and the first that fits.
use Rattle.std.proofs.Common.{◌≡◌, ◌∙◌, sym, refl, ap, subst, ℕ, zero, suc, ◌+◌, ◌<◌, ◌≤◌, inl, inr}
use Rattle.std.proofs.Common.{Bool, true, false, ◌&&◌, List, [], ◌∷◌, ◌++◌, length, map, get_or}
use Rattle.std.proofs.Common.{Option, Some, None, slice_get, arith}
use Rattle.std.proofs.lemmas.List.{get_or_default, length-map, append_assoc}
use Rattle.std.proofs.lemmas.List.Folds.{find-append}
use Rattle.std.specs.List.{find}
use Rattle.std.specs.Option.{option_or}
use Rattle.label_base.specs.declared.kind.Asked.{Asked}
use Rattle.pattern_match.specs.States.{HasRoomFor}
use Rattle.pattern_syntax.specs.Tree.{Tree, Nothing}
use Rattle.policy_lists.specs.Lines.{HaveRoom, HaveRoomTo, does_fit, line_fits, pattern_at}
use Rattle.policy_lists.specs.Lines.{pattern_of, spec_of}
use Rattle.policy_lists.specs.declared.line.Line.{Line}
use Rattle.spec_match.proofs.ChainLemmas.{before_or_last}
use Rattle.spec_match.proofs.ScratchLemmas.{more_room}
use Rattle.spec_match.specs.LastMatch.{fits}
use Rattle.spec_reader.specs.SpecValue.{SpecValue}

pub pattern_here : (lines : List Line) (i : ℕ) (line : Line) → i < length lines
    → line ≡ get_or lines i line → pattern_at lines i ≡ line.spec.pattern
pattern_here [] i line l e = absurd (omega (arith, l))
pattern_here (x ∷ lines) zero line l e = ap pattern_of (sym e)
pattern_here (x ∷ lines) (suc i) line l e = pattern_here lines i line (omega (arith, l)) e

pub spec_here : (lines : List Line) (i : ℕ) (line : Line) → i < length lines
    → line ≡ get_or lines i line → slice_get (map spec_of lines) i ≡ Some line.spec
spec_here [] i line l e = absurd (omega (arith, l))
spec_here (x ∷ lines) zero line l e = ap (λ v. Some (spec_of v)) (sym e)
spec_here (x ∷ lines) (suc i) line l e = spec_here lines i line (omega (arith, l)) e

-- the pattern of a line is that of its specification
pub pattern_of_spec : (lines : List Line) (i : ℕ) (spec : SpecValue)
    → slice_get (map spec_of lines) i ≡ Some spec → pattern_at lines i ≡ spec.pattern
pattern_of_spec [] i spec e = cc
pattern_of_spec (x ∷ lines) zero spec e =
    let same : spec_of x ≡ spec = cc in ap (λ (s : SpecValue). s.pattern) same
pattern_of_spec (x ∷ lines) (suc i) spec e = pattern_of_spec lines i spec e

pub wide_on : (lines : List Line) (n : ℕ) (item : Line) (old new : ℕ) → n < length lines
    → item ≡ get_or lines n item → old ≤ new → HasRoomFor item.spec.pattern new
    → HaveRoomTo lines n old → HaveRoomTo lines (n + 1) new
wide_on lines n item old new within is l this all i below =
    elim (before_or_last i n below) [
      | inl before ↦ more_room (pattern_at lines i) old new l (all i before)
      | inr last ↦ subst (λ t. HasRoomFor t new)
          (sym (pattern_here lines n item within is) ∙ ap (pattern_at lines) last) this
    ]

-- a member that doesn't fit makes no difference
pub first_without : (p : ℕ → Bool) (front rest : List ℕ) (i : ℕ) → p i ≡ false
    → find p (front ++ rest) ≡ find p (front ++ i ∷ rest)
first_without p front rest i e =
    find-append p front rest ∙ ap (option_or (find p front)) (at rest) ∙ sym (find-append p front
    (i ∷ rest))
  where
    at : (rest : List ℕ) → find p rest ≡ find p (i ∷ rest)
    at rest = rw e refl

-- behind one that fits none is looked at
pub first_up_to : (p : ℕ → Bool) (front rest : List ℕ) (i : ℕ) → p i ≡ true
    → find p (front ++ i ∷ []) ≡ find p (front ++ i ∷ rest)
first_up_to p front rest i e =
    find-append p front (i ∷ []) ∙ ap (option_or (find p front)) (at rest) ∙ sym
    (find-append p front (i ∷ rest))
  where
    at : (rest : List ℕ) → find p (i ∷ []) ≡ find p (i ∷ rest)
    at rest = rw e refl
