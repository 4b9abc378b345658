-- A second decision changes nothing.
use Rattle.std.proofs.Common.{◌≡◌, refl, ℕ, List, Bool, true, false, if◌then◌else◌}
use Rattle.std.proofs.lemmas.Slice.Eq.{bytes_eq-Decides}
use Rattle.std.proofs.lemmas.Bool.{cond_both}
use Rattle.label_base.specs.Text.{same_bytes}
use Rattle.context_syntax.specs.Context.{ContextValue, same_context, with_kind_of}
use Rattle.context_syntax.specs.Equal.{context_decides}
use Rattle.context_syntax.specs.TypeNames.{NameSet, set_has_name}
use Rattle.context_syntax.specs.declared.label.Label.{Label}
use Rattle.context_syntax.specs.declared.label.Label.TheVariants.{Absent, Odd, Is}
use Rattle.label_rules.specs.Decide.{VerdictValue, Keep, Customized, Change, is_change, label_by}
use Rattle.label_rules.specs.Decide.{type_verdict, verdict_for, verdict_on, whole_verdict}

is_kept : (b : Bool) (y : VerdictValue) → b ≡ true → is_change (if b then Keep else y) ≡ false
is_kept true y h = refl
is_kept false y h = absurd cc

whole_same : (c : ContextValue) → is_change (whole_verdict c c) ≡ false
whole_same c = is_kept (same_context c c) (Change c) ((context_decides c c).1 refl)

type_same : (types : NameSet) (c w : ContextValue) → same_bytes c.kind w.kind ≡ true
    → is_change (type_verdict types c w) ≡ false
type_same types c w h =
    is_kept (same_bytes c.kind w.kind)
    (if set_has_name types c.kind then Customized else Change (with_kind_of c w)) h

same_kind : (kind : List ℕ) → same_bytes kind kind ≡ true
same_kind kind = (bytes_eq-Decides kind kind).1 refl

wanted_settled : (force : Bool) (types : NameSet) (w : ContextValue)
    → is_change (verdict_on force types w w) ≡ false
wanted_settled true types w = whole_same w
wanted_settled false types w = type_same types w w (same_kind w.kind)

-- the verdict on the label that a verdict leaves is no change
abbrev Settles : Bool → NameSet → ContextValue → ContextValue → VerdictValue → Type 0
Settles force types c w verdict = is_change (verdict_for (label_by verdict (Is c)) w force types)
    ≡ false

customized_again : (a b : Bool) (y : VerdictValue) → b ≡ true
    → is_change (if a then Keep else if b then Customized else y) ≡ false
customized_again true b y h = refl
customized_again false true y h = refl
customized_again false false y h = absurd cc

settled_on : (force : Bool) (types : NameSet) (c w : ContextValue)
    → Settles force types c w (verdict_on force types c w)
settled_on true types c w =
    cond_both (same_context c w) Keep (Change w) (Settles true types c w)
    (λ h. is_kept (same_context c w) (Change w) h) (λ h. whole_same w)
settled_on false types c w =
    let change = Change (with_kind_of c w) in
    let rest = if set_has_name types c.kind then Customized else change in
    cond_both (same_bytes c.kind w.kind) Keep rest (Settles false types c w)
    (λ h. type_same types c w h)
    (λ _. cond_both (set_has_name types c.kind) Customized change (Settles false types c w)
    (λ h. customized_again (same_bytes c.kind w.kind) (set_has_name types c.kind) change h)
    (λ _. type_same types (with_kind_of c w) w (same_kind w.kind)))

pub settled : (label : Label) (wanted : ContextValue) (force : Bool) (types : NameSet)
    → is_change (verdict_for (label_by (verdict_for label wanted force types) label) wanted force
    types) ≡ false
settled Absent wanted force types = wanted_settled force types wanted
settled (Odd bytes) wanted force types = wanted_settled force types wanted
settled (Is current) wanted force types = settled_on force types current wanted
