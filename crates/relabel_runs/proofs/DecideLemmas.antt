-- How labels change: a label that was given is kept.
use Rattle.std.proofs.Common.{◌≡◌, ◌∙◌, ap, refl, sym, subst, ℕ, Bool, true, false, cond, List}
use Rattle.std.proofs.Common.{Option, Some, None, unwrap_or}
use Rattle.std.specs.FinMap.{contains_key-keys}
use Rattle.std.specs.Cmp.Lexicographic.{slice_cmp}
use Rattle.std.specs.Ordering.{eq_by_cmp, nat_cmp}
use Rattle.std.specs.List.{list_any}
use Rattle.std.proofs.lemmas.Slice.Eq.{bytes_eq-Decides}
use Rattle.std.proofs.lemmas.Option.{same_Some}
use Rattle.label_base.specs.Text.{same_bytes}
use Rattle.context_syntax.specs.Context.{ContextValue, same_context, with_kind_of}
use Rattle.context_syntax.specs.Equal.{context_decides}
use Rattle.context_syntax.specs.TypeNames.{NameSet, set_has_name, names_in_order}
use Rattle.context_syntax.specs.declared.label.Label.{Label}
use Rattle.context_syntax.specs.declared.label.Label.TheVariants.{Absent, Odd, Is}
use Rattle.label_rules.specs.Decide.{Change, Customized, Keep, VerdictValue, label_by, verdict_for}

-- the label that a verdict gives, if it gives one
abbrev pub given : VerdictValue → Option Label
given Keep = None
given Customized = None
given (Change context) = Some (Is context)

pub label_given : (verdict : VerdictValue) (label : Label) → unwrap_or (given verdict) label
    ≡ label_by verdict label
label_given Keep label = refl
label_given Customized label = refl
label_given (Change context) label = refl

-- a context of the wanted type is kept without force
kind_kept : (types : NameSet) (current wanted : ContextValue) → current.kind ≡ wanted.kind
    → given (verdict_for (Is current) wanted false types) ≡ None
kind_kept types current wanted e =
    ap (λ b. given
    (cond b Keep
    (cond (set_has_name types current.kind) Customized (Change (with_kind_of current wanted)))))
    ((bytes_eq-Decides current.kind wanted.kind).1 e)

-- the wanted context is kept
wanted_kept : (force : Bool) (types : NameSet) (wanted : ContextValue)
    → given (verdict_for (Is wanted) wanted force types) ≡ None
wanted_kept true types wanted = ap (λ b. given (cond b Keep (Change wanted)))
    ((context_decides wanted wanted).1 refl)
wanted_kept false types wanted = kind_kept types wanted wanted refl

given_kept : (force : Bool) (types : NameSet) (new : Label) (wanted : ContextValue)
    → Some (Is wanted) ≡ Some new → given (verdict_for new wanted force types) ≡ None
given_kept force types new wanted e = subst (λ l. given (verdict_for l wanted force types) ≡ None)
    (same_Some (Is wanted) new e) (wanted_kept force types wanted)

force_kept : (types : NameSet) (wanted : ContextValue) (new : Label) (b : Bool)
    → given (cond b Keep (Change wanted)) ≡ Some new → given (verdict_for new wanted true types)
    ≡ None
force_kept types wanted new true e = cc
force_kept types wanted new false e = given_kept true types new wanted e

kind_given : (types : NameSet) (current wanted : ContextValue) (new : Label) (a b : Bool)
    → given (cond a Keep (cond b Customized (Change (with_kind_of current wanted)))) ≡ Some new
    → given (verdict_for new wanted false types) ≡ None
kind_given types current wanted new true b e = cc
kind_given types current wanted new false true e = cc
kind_given types current wanted new false false e =
    subst (λ l. given (verdict_for l wanted false types) ≡ None)
    (same_Some (Is (with_kind_of current wanted)) new e)
    (kind_kept types (with_kind_of current wanted) wanted refl)

pub given_settles : (force : Bool) (types : NameSet) (label new : Label) (wanted : ContextValue)
    → given (verdict_for label wanted force types) ≡ Some new
    → given (verdict_for new wanted force types) ≡ None
given_settles force types Absent new wanted e = given_kept force types new wanted e
given_settles force types (Odd bytes) new wanted e = given_kept force types new wanted e
given_settles true types (Is current) new wanted e =
    force_kept types wanted new (same_context current wanted) e
given_settles false types (Is current) new wanted e =
    kind_given types current wanted new (same_bytes current.kind wanted.kind)
    (set_has_name types current.kind) e

-- ---- sets with the same names

names_show : (types others : NameSet) → names_in_order types ≡ names_in_order others
    → (name : List ℕ) → set_has_name types name ≡ set_has_name others name
names_show types others e name =
    contains_key-keys types name ∙ ap (λ names. list_any (eq_by_cmp (slice_cmp nat_cmp) name) names)
    e ∙ sym (contains_key-keys others name)

-- by force the types aren't looked at, and else their names alone
pub given_alike : (force other : Bool) (types others : NameSet) → force ≡ other
    → (force ≡ false → names_in_order types ≡ names_in_order others)
    → (label : Label) (wanted : ContextValue) → given (verdict_for label wanted force types)
    ≡ given (verdict_for label wanted other others)
given_alike true true types others f e Absent wanted = refl
given_alike true true types others f e (Odd bytes) wanted = refl
given_alike true true types others f e (Is current) wanted = refl
given_alike false false types others f e Absent wanted = refl
given_alike false false types others f e (Odd bytes) wanted = refl
given_alike false false types others f e (Is current) wanted =
    ap (λ b. given
    (cond (same_bytes current.kind wanted.kind) Keep
    (cond b Customized (Change (with_kind_of current wanted)))))
    (names_show types others (e refl) current.kind)
given_alike true false types others f e label wanted = cc
given_alike false true types others f e label wanted = cc
