-- The text of a dump of what a walk changes.
use Rattle.std.proofs.Common.{◌≡◌, ◌∙◌, sym, refl, ap, ℕ, ◌+◌, true, false, List, [], ◌∷◌, ◌++◌}
use Rattle.std.proofs.Common.{Option, Some, None, add-one, append-nil, append_assoc}
use Rattle.std.specs.List.{cons_option, filter_map}
use Rattle.std.proofs.lemmas.Grind.{flat_map-append}
use Rattle.std.proofs.lemmas.List.Elements.{filter_map-append}
use Rattle.label_base.specs.Bounded.{all_numbers}
use Rattle.file_paths.specs.Path.{Path}
use Rattle.context_syntax.specs.Context.{ContextValue}
use Rattle.setfattr_dump.specs.Texts.{attr_line, attrs_text, dump_text, name_line, section_text}
use Rattle.setfattr_dump.specs.declared.dump.Attr.{Attr}
use Rattle.setfattr_dump.specs.declared.dump.Section.{Section}
use Rattle.setfattr_dump.specs.declared.marks.TheConstants.{LINE_END}
use Rattle.relabel_core.specs.Changes.{does_change, given_attrs, optional_section, renewed_attrs}
use Rattle.relabel_core.specs.Changes.{section_at, section_by}
use Rattle.relabel_core.specs.Walk.{Walk}

-- the text of the sections of the entries below n
abbrev pub sections_below : Walk → ℕ → List ℕ
sections_below w n = dump_text (filter_map (section_at w) (all_numbers n))

pub no_attrs : (to : List ℕ) → to ≡ to ++ attrs_text []
unfolding attrs_text
no_attrs to = sym (append-nil to)

pub one_attr : (to : List ℕ) (attr : Attr) → to ++ attr_line attr.key attr.value ≡ to ++ attrs_text
    (attr ∷ [])
unfolding attrs_text
one_attr to attr = ap (λ t. to ++ t) (sym (append-nil (attr_line attr.key attr.value)))

attrs_append : (xs ys : List Attr) → attrs_text (xs ++ ys) ≡ attrs_text xs ++ attrs_text ys
unfolding attrs_text
attrs_append xs ys = flat_map-append (λ (attr : Attr). attr_line attr.key attr.value) xs ys

-- a name, attributes and an empty line
section_written : (path : Path) (to : List ℕ) (xs ys : List Attr)
    → to ++ name_line path ++ attrs_text xs ++ attrs_text ys ++ LINE_END.now ≡ to
    ++ (name_line path ++ attrs_text (xs ++ ys) ++ LINE_END.now)
section_written path to xs ys =
    ap (λ t. t ++ LINE_END.now)
    (append_assoc (to ++ name_line path) (attrs_text xs) (attrs_text ys))
    ∙ ap (λ t. to ++ name_line path ++ t ++ LINE_END.now) (sym (attrs_append xs ys))
    ∙ ap (λ t. t ++ LINE_END.now) (append_assoc to (name_line path) (attrs_text (xs ++ ys)))
    ∙ append_assoc to (name_line path ++ attrs_text (xs ++ ys)) LINE_END.now

-- where there are attributes, that is a section
whole : (path : Path) (change : Option ContextValue) (digest : Option (List ℕ))
    → does_change change digest ≡ true
    → name_line path ++ attrs_text (given_attrs change ++ renewed_attrs digest) ++ LINE_END.now
    ≡ optional_section (section_by path change digest)
whole path (Some context) digest some = refl
whole path None (Some digest) some = refl
whole path None None some = absurd cc

pub whole_written : (path : Path) (change : Option ContextValue) (digest : Option (List ℕ))
    (to one two three four : List ℕ)
    → does_change change digest ≡ true → one ≡ to ++ name_line path
    → two ≡ one ++ attrs_text (given_attrs change)
    → three ≡ two ++ attrs_text (renewed_attrs digest) → four ≡ three ++ LINE_END.now
    → four ≡ to ++ optional_section (section_by path change digest)
whole_written path change digest to one two three four some p q r s =
    s ∙ ap (λ t. t ++ LINE_END.now)
    (r ∙ ap (λ t. t ++ attrs_text (renewed_attrs digest))
    (q ∙ ap (λ t. t ++ attrs_text (given_attrs change)) p))
    ∙ section_written path to (given_attrs change) (renewed_attrs digest)
    ∙ ap (λ t. to ++ t) (whole path change digest some)

pub none_written : (path : Path) (change : Option ContextValue) (digest : Option (List ℕ))
    (to : List ℕ) → does_change change digest ≡ false
    → to ≡ to ++ optional_section (section_by path change digest)
none_written path None None to none = sym (append-nil to)
none_written path None (Some digest) to none = absurd cc
none_written path (Some context) digest to none = absurd cc

one_section : (section : Option Section) → dump_text (cons_option section []) ≡ optional_section
    section
unfolding dump_text
one_section None = refl
one_section (Some section) = append-nil (section_text section)

dump_append : (xs ys : List Section) → dump_text (xs ++ ys) ≡ dump_text xs ++ dump_text ys
unfolding dump_text
dump_append xs ys = flat_map-append section_text xs ys

pub none_dumped : (to : List ℕ) → to ≡ to ++ dump_text []
unfolding dump_text
none_dumped to = sym (append-nil to)

sections_more : (w : Walk) (n : ℕ) → sections_below w (n + 1) ≡ sections_below w n
    ++ optional_section (section_at w n)
sections_more w n =
    ap (λ m. sections_below w m) (add-one n)
    ∙ ap dump_text (filter_map-append (section_at w) (all_numbers n) (n ∷ []))
    ∙ dump_append (filter_map (section_at w) (all_numbers n)) (cons_option (section_at w n) [])
    ∙ ap (λ t. sections_below w n ++ t) (one_section (section_at w n))

-- one section more, where there is one
pub section_more : (w : Walk) (n : ℕ) (old before now : List ℕ) → before ≡ old ++ sections_below w n
    → now ≡ before ++ optional_section (section_at w n) → now ≡ old ++ sections_below w (n + 1)
section_more w n old before now b h =
    h ∙ ap (λ t. t ++ optional_section (section_at w n)) b ∙ append_assoc old (sections_below w n)
    (optional_section (section_at w n))
    ∙ ap (λ t. old ++ t) (sym (sections_more w n))
