-- Which labels and digests change, and how that is told.
use Rattle.std.proofs.Common.{◌≡◌, ◌∙◌, sym, refl, ap, ap₂, ℕ, Bool, true, false, ◌&&◌, not, List}
use Rattle.std.proofs.Common.{[], ◌∷◌, ◌++◌, Option, Some, None, inl, inr, if◌then◌else◌}
use Rattle.std.specs.Prelude.{is_some, option_and_then}
use Rattle.std.proofs.lemmas.Bool.{cases_Bool, cond_both}
use Rattle.std.proofs.lemmas.Slice.Eq.{bytes_eq-Decides}
use Rattle.dir_digest.specs.Digest.{void_digest}
use Rattle.tree_model.proofs.SameLemmas.{option_same}
use Rattle.label_base.specs.Text.{same_bytes}
use Rattle.file_paths.specs.Path.{Path}
use Rattle.context_syntax.specs.Context.{ContextValue, same_context, same_option, with_kind_of}
use Rattle.context_syntax.specs.Equal.{context_decides, never}
use Rattle.context_syntax.specs.Label.{same_label}
use Rattle.context_syntax.specs.LabelEqual.{label_decides}
use Rattle.context_syntax.specs.TypeNames.{NameSet, set_has_name}
use Rattle.context_syntax.specs.declared.label.Label.{Label}
use Rattle.context_syntax.specs.declared.label.Label.TheVariants.{Absent, Odd, Is}
use Rattle.tree_model.specs.Groups.{group_of, label_in}
use Rattle.relabel_core.specs.Changes.{change_at, digest_attr, digest_attrs, digest_bytes}
use Rattle.relabel_core.specs.Changes.{digest_changes, given_attrs, digest_change, group_change}
use Rattle.relabel_core.specs.Changes.{is_void, label_attr, label_attrs, label_bytes, renewed_attrs}
use Rattle.relabel_core.specs.Changes.{section_at, section_by, section_with, unless_stored}
use Rattle.label_rules.specs.Decide.{given_in, VerdictValue, Keep, Customized, Change, label_by}
use Rattle.label_rules.specs.Decide.{verdict_for, verdict_on}
use Rattle.relabel_core.specs.DigestAfter.{digest_seen, void_if}
use Rattle.relabel_core.specs.Swept.{renewal}
use Rattle.relabel_core.specs.Walk.{Walk, digest_after, digest_now, group_winner, is_found_at}
use Rattle.relabel_core.specs.Walk.{is_changed_name, is_outdated, is_renewed, label_after}
use Rattle.relabel_core.specs.Walk.{new_label_with, path_at, verdict_where, verdict_with, wanted}

-- ---- a verdict changes a label just where another one is left

same_self : (label : Label) → not (same_label label label) ≡ false
same_self label = ap not ((label_decides label label).1 refl)

other_context : (a b : ContextValue) → same_context a b ≡ false → same_context b a ≡ false
other_context a b h =
    elim (cases_Bool (same_context b a)) [
      | inl same ↦ absurd
          (never (sym h ∙ (context_decides a b).1 (sym ((context_decides b a).0 same))))
      | inr differ ↦ differ
    ]

other_kind : (a b : ContextValue) → same_bytes a.kind b.kind ≡ false
    → same_context (with_kind_of a b) a ≡ false
other_kind a b h =
    elim (cases_Bool (same_context (with_kind_of a b) a)) [
      | inl same ↦ absurd
          (never (sym h ∙ (bytes_eq-Decides a.kind b.kind).1
          (sym (ap (λ c. c.kind) ((context_decides (with_kind_of a b) a).0 same)))))
      | inr differ ↦ differ
    ]

-- a verdict gives a context just where it leaves another label
abbrev Shows : Label → VerdictValue → Type 0
Shows label verdict = is_some (given_in verdict) ≡ not (same_label (label_by verdict label) label)

keep_shows : (label : Label) → Shows label Keep
keep_shows label = sym (same_self label)

customized_shows : (label : Label) → Shows label Customized
customized_shows label = sym (same_self label)

on_shows : (force : Bool) (types : NameSet) (c w : ContextValue)
    → Shows (Is c) (verdict_on force types c w)
on_shows true types c w =
    cond_both (same_context c w) Keep (Change w) (Shows (Is c)) (λ h. keep_shows (Is c))
    (λ h. sym (ap not (other_context c w h)))
on_shows false types c w =
    cond_both (same_bytes c.kind w.kind) Keep
    (if set_has_name types c.kind then Customized else Change (with_kind_of c w)) (Shows (Is c))
    (λ h. keep_shows (Is c))
    (λ h. cond_both (set_has_name types c.kind) Customized (Change (with_kind_of c w))
    (Shows (Is c)) (λ _. customized_shows (Is c))
    (λ _. sym (ap not (other_kind c w h))))

for_shows : (label : Label) (w : ContextValue) (force : Bool) (types : NameSet)
    → Shows label (verdict_for label w force types)
for_shows Absent w force types = refl
for_shows (Odd bytes) w force types = refl
for_shows (Is c) w force types = on_shows force types c w

where_shows : (w : Walk) (g : ℕ) (context : Option ContextValue)
    → Shows (label_in w.entries g) (verdict_where w g context)
where_shows w g None = keep_shows (label_in w.entries g)
where_shows w g (Some context) = for_shows (label_in w.entries g) context w.options.force
    w.rules.types

with_shows : (w : Walk) (g : ℕ) (found : Option ℕ)
    → Shows (label_in w.entries g) (verdict_with w g found)
with_shows w g found = where_shows w g (option_and_then (wanted w) found)

-- with -n no verdict counts
if_not_dry : (dry : Bool) (label : Label) (verdict : VerdictValue) → Shows label verdict
    → is_some (if dry then None else given_in verdict)
    ≡ not (same_label (if dry then label else label_by verdict label) label)
if_not_dry true label verdict shows = sym (same_self label)
if_not_dry false label verdict shows = shows

group_changes : (w : Walk) (g : ℕ) (found : Option ℕ)
    → is_some (group_change w g found)
    ≡ not (same_label (new_label_with w g found) (label_in w.entries g))
group_changes w g found = if_not_dry w.options.dry (label_in w.entries g) (verdict_with w g found)
    (with_shows w g found)

pub changed_name_is : (w : Walk) (e : ℕ)
    → is_some (group_change w (group_of w.entries e) (group_winner w e)) ≡ is_changed_name w e
changed_name_is w e = group_changes w (group_of w.entries e) (group_winner w e)

-- ---- the attribute of a label

if_true : (b : Bool) (label : Label) → b ≡ true
    → (if b then label_attr (label_bytes label) ∷ [] else []) ≡ label_attr (label_bytes label) ∷ []
if_true true label h = refl
if_true false label h = absurd cc

if_false : (b : Bool) (label : Label) → b ≡ false
    → (if b then label_attr (label_bytes label) ∷ [] else []) ≡ []
if_false false label h = refl
if_false true label h = absurd cc

verdict_attrs : (label : Label) (verdict : VerdictValue) → Shows label verdict
    → (if not (same_label (label_by verdict label) label) then label_attr
    (label_bytes (label_by verdict label)) ∷ [] else []) ≡ given_attrs (given_in verdict)
verdict_attrs label Keep shows = if_false (not (same_label label label)) label (sym shows)
verdict_attrs label Customized shows = if_false (not (same_label label label)) label (sym shows)
verdict_attrs label (Change context) shows = if_true (not (same_label (Is context) label))
    (Is context) (sym shows)

dry_attrs : (dry : Bool) (label : Label) (verdict : VerdictValue) → Shows label verdict
    → (if not (same_label (if dry then label else label_by verdict label) label) then label_attr
    (label_bytes (if dry then label else label_by verdict label)) ∷ [] else [])
    ≡ given_attrs (if dry then None else given_in verdict)
dry_attrs true label verdict shows = if_false (not (same_label label label)) label (same_self label)
dry_attrs false label verdict shows = verdict_attrs label verdict shows

winner_attrs : (here : Bool) (new label : Label) (change : Option ContextValue)
    → (if not (same_label new label) then label_attr (label_bytes new) ∷ [] else []) ≡ given_attrs
    change
    → (if not (same_label (if here then new else label) label) then label_attr
    (label_bytes (if here then new else label)) ∷ [] else [])
    ≡ given_attrs (if here then change else None)
winner_attrs true new label change h = h
winner_attrs false new label change h = if_false (not (same_label label label)) label
    (same_self label)

pub label_attrs_are : (w : Walk) (e : ℕ) → label_attrs w e ≡ given_attrs (change_at w e)
unfolding label_after change_at
label_attrs_are w e =
    let g = group_of w.entries e in
    let found = group_winner w e in
    winner_attrs (is_found_at found e) (new_label_with w g found) (label_in w.entries g)
    (group_change w g found)
    (dry_attrs w.options.dry (label_in w.entries g) (verdict_with w g found) (with_shows w g found))

-- ---- digests

renewed_or : Option (List ℕ) → Option (List ℕ) → Option (List ℕ)
renewed_or (Some digest) other = Some digest
renewed_or None other = other

after_if : (dry renewed outdated : Bool) (digest : List ℕ) (stored : Option (List ℕ))
    → (if dry then stored else if renewed then Some digest else if outdated then Some
    void_digest else stored)
    ≡ renewed_or (if not dry && renewed then Some digest else None)
    (if not dry && outdated then Some void_digest else stored)
unfolding renewed_or
after_if true renewed outdated digest stored = refl
after_if false true outdated digest stored = refl
after_if false false true digest stored = refl
after_if false false false digest stored = refl

after_is : (w : Walk) (d : ℕ) → digest_after w d ≡ renewed_or (renewal w d)
    (if is_void w d then Some void_digest else w.stored d)
unfolding digest_after
after_is w d = after_if w.options.dry (is_renewed w d) (is_outdated w d) (digest_now w d)
    (w.stored d)

pub after_renewed : (w : Walk) (d : ℕ) (digest : List ℕ) → renewal w d ≡ Some digest
    → digest_after w d ≡ Some digest
unfolding renewed_or
after_renewed w d digest h = after_is w d
    ∙ ap (λ o. renewed_or o (if is_void w d then Some void_digest else w.stored d)) h

pub after_other : (w : Walk) (d : ℕ) → renewal w d ≡ None
    → digest_after w d ≡ (if is_void w d then Some void_digest else w.stored d)
unfolding renewed_or
after_other w d h = after_is w d
    ∙ ap (λ o. renewed_or o (if is_void w d then Some void_digest else w.stored d)) h

pub shown_void : (b : Bool) (stored : Option (List ℕ)) → digest_seen (void_if b) stored
    ≡ (if b then Some void_digest else stored)
shown_void true stored = refl
shown_void false stored = refl

-- ---- the digest that an entry's changes to

unless : (b : Bool) (digest : List ℕ) → (if not b then Some digest else None)
    ≡ (if b then None else Some digest)
unless true digest = refl
unless false digest = refl

pub change_renewed : (w : Walk) (d : ℕ) (digest : List ℕ) → renewal w d ≡ Some digest
    → digest_change w d ≡ unless_stored digest (w.stored d)
change_renewed w d digest h =
    ap (λ after. if not (same_option after (w.stored d)) then after else None)
    (after_renewed w d digest h)
    ∙ unless (same_option (Some digest) (w.stored d)) digest

pub change_void : (w : Walk) (d : ℕ) → renewal w d ≡ None → is_void w d ≡ true
    → digest_change w d ≡ unless_stored void_digest (w.stored d)
change_void w d h v =
    ap (λ after. if not (same_option after (w.stored d)) then after else None)
    (after_other w d h ∙ ap (λ b. if b then Some void_digest else w.stored d) v)
    ∙ unless (same_option (Some void_digest) (w.stored d)) void_digest

pub change_none : (w : Walk) (d : ℕ) → renewal w d ≡ None → is_void w d ≡ false
    → digest_change w d ≡ None
change_none w d h v =
    ap (λ after. if not (same_option after (w.stored d)) then after else None)
    (after_other w d h ∙ ap (λ b. if b then Some void_digest else w.stored d) v)
    ∙ ap (λ b. if not b then w.stored d else None) (option_same (w.stored d))

-- ---- the attribute of a digest

stored_none : (dry renewed outdated : Bool) (digest : List ℕ) (stored : Option (List ℕ))
    → (if dry then stored else if renewed then Some digest else if outdated then Some
    void_digest else stored) ≡ None → stored ≡ None
stored_none true renewed outdated digest stored h = h
stored_none false true outdated digest stored h = absurd cc
stored_none false false true digest stored h = absurd cc
stored_none false false false digest stored h = h

-- no digest is taken away
none_stays : (w : Walk) (d : ℕ) → digest_after w d ≡ None → digest_changes w d ≡ false
unfolding digest_after
none_stays w d h =
    ap₂ (λ after stored. not (same_option after stored)) h
    (stored_none w.options.dry (is_renewed w d) (is_outdated w d) (digest_now w d) (w.stored d) h)

is_some_if : (b : Bool) (after : Option (List ℕ)) → (after ≡ None → b ≡ false)
    → is_some (if b then after else None) ≡ b
is_some_if false after h = refl
is_some_if true (Some digest) h = refl
is_some_if true None h = sym (h refl)

pub change_shown : (w : Walk) (d : ℕ) → is_some (digest_change w d) ≡ digest_changes w d
change_shown w d = is_some_if (digest_changes w d) (digest_after w d) (none_stays w d)

attrs_if : (b : Bool) (after : Option (List ℕ)) → (after ≡ None → b ≡ false)
    → (if b then digest_attr (digest_bytes after) ∷ [] else []) ≡ renewed_attrs
    (if b then after else None)
attrs_if false after h = refl
attrs_if true (Some digest) h = refl
attrs_if true None h = (let e = h refl in absurd cc)

digest_attrs_are : (w : Walk) (e : ℕ) → digest_attrs w e ≡ renewed_attrs (digest_change w e)
digest_attrs_are w e = attrs_if (digest_changes w e) (digest_after w e) (none_stays w e)

section_is : (w : Walk) (e : ℕ) → section_at w e ≡ section_by (path_at w e) (change_at w e)
    (digest_change w e)
unfolding section_at
section_is w e = ap₂ (λ xs ys. section_with (path_at w e) (xs ++ ys)) (label_attrs_are w e)
    (digest_attrs_are w e)

pub section_shown : (w : Walk) (e : ℕ) (path : Path) (change : Option ContextValue)
    (digest : Option (List ℕ)) → path ≡ path_at w e → change ≡ change_at w e
    → digest ≡ digest_change w e → section_by path change digest ≡ section_at w e
section_shown w e path change digest p q r =
    ap₂ (λ at given. section_by at given digest) p q
    ∙ ap (λ b. section_by (path_at w e) (change_at w e) b) r ∙ sym (section_is w e)
