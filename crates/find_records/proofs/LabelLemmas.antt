-- Lists that begin with others.
use Rattle.std.proofs.Common.{◌≡◌, ◌∙◌, ap, sym, subst, ℕ, zero, suc, List, [], ◌∷◌, ◌++◌, length}
use Rattle.std.proofs.Common.{take, drop}
use Rattle.std.proofs.lemmas.List.{map-append, take-append-drop}
use Rattle.std.proofs.Math.Seq.{take-append_seam, take-length}
use Rattle.std.specs.Prelude.{Some, slice_get, true}
use Rattle.context_syntax.specs.Label.{label_of}
use Rattle.context_syntax.specs.declared.label.Label.{Label}
use Rattle.std.specs.Option.{option_map}
use Rattle.std.specs.Str.{bytes_eq}
use Rattle.std.proofs.lemmas.Slice.Eq.{bytes_eq-Decides}
use Rattle.std.proofs.lemmas.Option.{same_Some, slice_get-map}
use Rattle.find_records.specs.Labels.{AreLabelsSpelled, Extends, labels_in}
use Rattle.find_records.specs.declared.labels.Spelled.{Spelled}

pub extends_by : {X : Type 0} (xs ys more : List X) → ys ≡ xs ++ more → Extends xs ys
extends_by xs ys more e = ap (take (length xs)) e ∙ take-append_seam xs more

pub extends_self : {X : Type 0} (xs ys : List X) → ys ≡ xs → Extends xs ys
extends_self xs ys e = ap (take (length xs)) e ∙ take-length xs

pub longer : {X : Type 0} (xs ys : List X) → Extends xs ys → ys ≡ xs ++ drop (length xs) ys
longer xs ys e = sym (take-append-drop (length xs) ys) ∙ ap (λ t. t ++ drop (length xs) ys) e

-- ---- labels beside their spellings

pub label_found : (known : List Spelled) (n : ℕ) (spelled : Spelled)
    → slice_get known n ≡ Some spelled → slice_get (labels_in known) n ≡ Some spelled.label
label_found known n spelled h = slice_get-map (λ s. s.label) known n
    ∙ ap (option_map (λ s. s.label)) h

spelled_at : (known : List Spelled) (n : ℕ) (spelled : Spelled) → AreLabelsSpelled known
    → slice_get known n ≡ Some spelled → spelled.label ≡ label_of spelled.text.items
spelled_at [] n spelled a h = cc
spelled_at (s ∷ ss) zero spelled a h =
    subst (λ k. k.label ≡ label_of k.text.items) (same_Some s spelled h) a.0
spelled_at (s ∷ ss) (suc n) spelled a h = spelled_at ss n spelled a.1 h

-- a spelling that was compared
pub label_shown : (known : List Spelled) (n : ℕ) (spelled : Spelled) (bytes : List ℕ)
    → slice_get known n ≡ Some spelled → bytes_eq spelled.text.items bytes ≡ true
    → AreLabelsSpelled known
    → slice_get (labels_in known) n ≡ Some (label_of bytes)
label_shown known n spelled bytes h e a =
    label_found known n spelled h
    ∙ ap (λ l. Some l) (spelled_at known n spelled a h
    ∙ ap label_of ((bytes_eq-Decides spelled.text.items bytes).0 e))

spelled_with : (known : List Spelled) (spelled : Spelled) → AreLabelsSpelled known
    → spelled.label ≡ label_of spelled.text.items → AreLabelsSpelled (known ++ spelled ∷ [])
spelled_with [] spelled a h = (h, tt)
spelled_with (s ∷ ss) spelled a h = (a.0, spelled_with ss spelled a.1 h)

-- one spelling more
pub spelled_more : (known new : List Spelled) (spelled : Spelled) (bytes : List ℕ)
    → new ≡ known ++ spelled ∷ [] → spelled.text.items ≡ bytes → spelled.label ≡ label_of bytes
    → AreLabelsSpelled known → AreLabelsSpelled new
spelled_more known new spelled bytes e t h a =
    subst AreLabelsSpelled (sym e) (spelled_with known spelled a (h ∙ ap label_of (sym t)))

pub labels_more : (known new : List Spelled) (spelled : Spelled) (label : Label)
    → new ≡ known ++ spelled ∷ [] → spelled.label ≡ label → labels_in new ≡ labels_in known
    ++ label ∷ []
labels_more known new spelled label e h = ap labels_in e
    ∙ map-append (λ s. s.label) known (spelled ∷ []) ∙ ap (λ l. labels_in known ++ l ∷ []) h
