-- How the digests of a dump are kept, section by section.
use Rattle.std.proofs.Common.{◌≡◌, ◌∙◌, sym, refl, ap, ℕ, ◌==◌, Bool, true, false, List, [], ◌∷◌}
use Rattle.std.proofs.Common.{◌++◌, Option, Some, None, if◌then◌else◌, append-nil, arith, cond}
use Rattle.std.proofs.Common.{length}
use std.Path.{fun_ext}
use Rattle.std.specs.Prelude.{filter, map}
use Rattle.std.specs.List.{flat_map, last_or}
use Rattle.std.specs.BTreeMap.{BTreeMap, is_at as is_at_key}
use Rattle.std.specs.Map.{lookup}
use Rattle.std.specs.Cmp.{nat_cmp_is}
use Rattle.std.specs.Ordering.{is_eq, nat_cmp}
use Rattle.std.specs.declared.cmp.Ordering.TheVariants.{Equal}
use Rattle.std.proofs.lemmas.Grind.{flat_map-append}
use Rattle.std.proofs.lemmas.List.{map-append}
use Rattle.std.proofs.lemmas.List.Elements.{filter-append}
use Rattle.find_records.specs.Record.{Record}
use Rattle.setfattr_dump.specs.declared.dump.Attr.{Attr}
use Rattle.setfattr_dump.specs.declared.dump.Section.{Section}
use Rattle.relabel_core.specs.Walk.{is_found_at}
use Rattle.relabel_core.specs.Stored.{KeepsAmong, KeepsFrom, digests_among, digests_at, digests_in}
use Rattle.relabel_core.specs.Stored.{directory_at, is_digest_attr, no_digests}

last_append : {A : Type 0} (o : Option A) (xs ys : List A) → last_or o (xs ++ ys)
    ≡ last_or (last_or o xs) ys
last_append o [] ys = refl
last_append o (x ∷ xs) ys = last_append (Some x) xs ys

among_append : (xs ys : List Attr) → digests_among (xs ++ ys) ≡ digests_among xs ++ digests_among ys
among_append xs ys =
    ap (λ attrs. map (λ attr. attr.value) attrs) (filter-append is_digest_attr xs ys)
    ∙ map-append (λ attr. attr.value) (filter is_digest_attr xs) (filter is_digest_attr ys)

at_append : (ss ts : List Section) (entries : List Record) (d : ℕ) → digests_at (ss ++ ts) entries d
    ≡ digests_at ss entries d ++ digests_at ts entries d
at_append ss ts entries d =
    let test : Section → Bool = λ section. is_found_at (directory_at entries section.name) d in
    let among : Section → List (List ℕ) = λ section. digests_among section.attrs in
    ap (λ sections. flat_map among sections) (filter-append test ss ts)
    ∙ flat_map-append among (filter test ss) (filter test ts)

then_among : (b : Bool) (o m n : Option (List ℕ)) (xs ys all : List (List ℕ))
    → m ≡ (if b then last_or o xs else o)
    → n ≡ (if b then last_or m ys else m) → all ≡ xs ++ ys → n ≡ (if b then last_or o all else o)
then_among true o m n xs ys all p q a = q ∙ ap (λ k. last_or k ys) p ∙ sym (last_append o xs ys)
    ∙ ap (λ l. last_or o l) (sym a)
then_among false o m n xs ys all p q a = q ∙ p

nothing_more : (b : Bool) (o : Option (List ℕ)) → o ≡ (if b then o else o)
nothing_more true o = refl
nothing_more false o = refl

pub none_among : (kept : BTreeMap ℕ (List ℕ)) (d : ℕ) → KeepsAmong kept kept d []
none_among kept d = λ e. nothing_more (d == e) (digests_in kept e)

pub more_among : (old mid new : BTreeMap ℕ (List ℕ)) (d : ℕ) (attrs all : List Attr) (attr : Attr)
    → KeepsAmong old mid d attrs → KeepsAmong mid new d (attr ∷ []) → all ≡ attrs ++ attr ∷ []
    → KeepsAmong old new d all
more_among old mid new d attrs all attr p q a = λ e.
    then_among (d == e) (digests_in old e) (digests_in mid e) (digests_in new e)
    (digests_among attrs) (digests_among (attr ∷ [])) (digests_among all)
    (p e) (q e) (ap digests_among a ∙ among_append attrs (attr ∷ []))

pub those_among : (old new : BTreeMap ℕ (List ℕ)) (d : ℕ) (part all : List Attr)
    → KeepsAmong old new d part → part ≡ all → KeepsAmong old new d all
those_among old new d part all p h =
    λ e. p e ∙ ap
    (λ attrs. if d == e then last_or (digests_in old e) (digests_among attrs) else digests_in old e)
    h

pub those_from : (old new : BTreeMap ℕ (List ℕ)) (entries : List Record) (part all : List Section)
    → KeepsFrom old new entries part → part ≡ all
    → KeepsFrom old new entries all
those_from old new entries part all p h =
    λ e. p e ∙ ap (λ sections. last_or (digests_in old e) (digests_at sections entries e)) h

pub none_from : (kept : BTreeMap ℕ (List ℕ)) (entries : List Record)
    → KeepsFrom kept kept entries []
none_from kept entries = λ e. refl

pub more_from : (old mid new : BTreeMap ℕ (List ℕ)) (entries : List Record)
    (sections all : List Section) (section : Section)
    → KeepsFrom old mid entries sections → KeepsFrom mid new entries (section ∷ [])
    → all ≡ sections ++ section ∷ []
    → KeepsFrom old new entries all
more_from old mid new entries sections all section p q a = λ e.
    q e ∙ ap (λ k. last_or k (digests_at (section ∷ []) entries e)) (p e)
    ∙ sym (last_append (digests_in old e) (digests_at sections entries e)
    (digests_at (section ∷ []) entries e))
    ∙ ap (λ l. last_or (digests_in old e) l)
    (sym (ap (λ ss. digests_at ss entries e) a ∙ at_append sections (section ∷ []) entries e))

one_section : (b : Bool) (section : Section) (o : Option (List ℕ))
    → (if b then last_or o (digests_among section.attrs) else o)
    ≡ last_or o (flat_map (λ (s : Section). digests_among s.attrs) (if b then section ∷ [] else []))
one_section true section o = ap (λ l. last_or o l) (sym (append-nil (digests_among section.attrs)))
one_section false section o = refl

-- a section whose name is the directory d's
pub section_of_directory : (old new : BTreeMap ℕ (List ℕ)) (entries : List Record)
    (section : Section) (d : ℕ)
    → directory_at entries section.name ≡ Some d → KeepsAmong old new d section.attrs
    → KeepsFrom old new entries (section ∷ [])
section_of_directory old new entries section d here p = λ e.
    p e ∙ one_section (d == e) section (digests_in old e)
    ∙ ap (λ found. last_or (digests_in old e)
    (flat_map (λ (s : Section). digests_among s.attrs)
    (if is_found_at found e then section ∷ [] else []))) (sym here)

-- a section whose name no directory has
pub section_of_none : (kept : BTreeMap ℕ (List ℕ)) (entries : List Record) (section : Section)
    → directory_at entries section.name ≡ None → KeepsFrom kept kept entries (section ∷ [])
section_of_none kept entries section none = λ e.
    ap (λ found. last_or (digests_in kept e)
    (flat_map (λ (s : Section). digests_among s.attrs)
    (if is_found_at found e then section ∷ [] else []))) (sym none)

pub empty_keeps_none : (kept : BTreeMap ℕ (List ℕ)) → kept.entries ≡ []
    → digests_in kept ≡ no_digests
empty_keeps_none kept none = fun_ext (λ (d : ℕ). ap (λ es. lookup (is_at_key (nat_cmp d)) es) none)

none_found : (entries : List (ℕ × List ℕ))
    → ((d : ℕ) → lookup (is_at_key (nat_cmp d)) entries ≡ None) → length entries ≡ 0
none_found [] none = refl
none_found (entry ∷ entries) none =
    let here : Some entry.1 ≡ None =
    ap (λ order. cond (is_eq order) (Some entry.1) (lookup (is_at_key (nat_cmp entry.0)) entries))
    (nat_cmp_is entry.0 entry.0 Equal refl) ∙ none entry.0 in
    absurd cc

-- no entry is there where none is found
pub none_kept : (kept : BTreeMap ℕ (List ℕ)) → digests_in kept ≡ no_digests
    → length kept.entries ≡ 0
none_kept kept none = none_found kept.entries (λ d. ap (λ digests. digests d) none)

pub empty_kept : (kept : BTreeMap ℕ (List ℕ)) → length kept.entries ≡ 0
    → digests_in kept ≡ no_digests
empty_kept kept none = empty_keeps_none kept (no_items kept.entries none)
  where
    no_items : (entries : List (ℕ × List ℕ)) → length entries ≡ 0 → entries ≡ []
    no_items [] e = refl
    no_items (entry ∷ entries) e = absurd (omega (arith, e))
