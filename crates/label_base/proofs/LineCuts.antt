-- A text has the lines, and a line has the fields, that their grammar gives it.
use Rattle.std.proofs.Common.{◌≡◌, ◌∙◌, ap, sym, refl, subst, ℕ, zero, suc, ◌≤◌, true, false, List}
use Rattle.std.proofs.Common.{[], ◌∷◌, ◌++◌, length, append_assoc, append-nil, length-append, inl}
use Rattle.std.proofs.Common.{inr, arith}
use Rattle.std.specs.Prelude.{◌↔◌, All, filter}
use Rattle.std.specs.List.{slice_split, list_all, list_any, AllByRecursion}
use Rattle.std.proofs.lemmas.Bool.{and_parts, and_from, or_parts, or_from, ne_eqb}
use Rattle.std.proofs.lemmas.List.Elements.{All-from_recursion}
use Rattle.std.proofs.lemmas.List.Splits.{slice_split-cons_yes, slice_split_at, slice_split_none}
use Rattle.label_base.specs.declared.cut.TheConstants.{LINE_FEED}
use Rattle.label_base.specs.Text.{is_nonempty}
use Rattle.label_base.specs.Lines.{fields_of, is_blank, lines_of}
use Rattle.label_base.specs.LineGrammar.{AreBlanks, AreFields, AreLines, IsField, none, last, more}
use Rattle.label_base.proofs.FirstCut.{cut, pieces_at, pieces_lacking}
use Rattle.label_base.proofs.LineLemmas.{lines_found, lines_last}

-- ---- lines

abbrev SomeLines : List ℕ → Type 0
SomeLines text = (lines : List (List ℕ)) × AreLines text lines

lines_complete : (text : List ℕ) (lines : List (List ℕ)) → AreLines text lines
    → lines_of text ≡ lines
lines_complete text lines none = refl
lines_complete text lines (last line some lacks) =
    lines_last line (ne_eqb (length line) 0 (λ e. omega (arith, e)))
    (pieces_lacking LINE_FEED line lacks)
lines_complete text lines (more line rest others lacks are) =
    lines_found (line ++ LINE_FEED ∷ rest) line rest (pieces_at LINE_FEED line rest lacks)
    ∙ ap (λ ls. line ∷ ls) (lines_complete rest others are)

-- turns is no less than how many bytes there are
some_lines : (turns : ℕ) (text : List ℕ) → length text ≤ turns → SomeLines text
some_lines turns [] short = ([], none)
some_lines zero (b ∷ bs) short = absurd (omega arith)
some_lines (suc turns) (b ∷ bs) short =
    elim (cut LINE_FEED (b ∷ bs)) [
      | inl lacks ↦ ((b ∷ bs) ∷ [], last (b ∷ bs) (omega arith) lacks)
      | inr c ↦
          let shorter : length c.rest ≤ turns =
          omega (arith, ap length c.text, length-append c.first (LINE_FEED ∷ c.rest)) in
          let others = some_lines turns c.rest shorter in (
            c.first ∷ others.0,
            subst (λ t. AreLines t (c.first ∷ others.0)) (sym c.text)
                (more c.first c.rest others.0 c.lacks others.1),
          )
    ]

pub lines_sound : (text : List ℕ) → AreLines text (lines_of text)
lines_sound text =
    let found = some_lines (length text) text (omega arith) in
    subst (AreLines text) (sym (lines_complete text found.0 found.1)) found.1

pub lines_are : (text : List ℕ) (lines : List (List ℕ)) → (lines_of text ≡ lines) ↔ AreLines text
    lines
lines_are text lines =
    (λ read. subst (AreLines text) read (lines_sound text), lines_complete text lines)

-- ---- fields

blank_skipped : (b : ℕ) (rest : List ℕ) → is_blank b ≡ true → fields_of (b ∷ rest) ≡ fields_of rest
blank_skipped b rest h = ap (filter is_nonempty) (slice_split-cons_yes is_blank b rest h)

blanks_skipped : (blanks rest : List ℕ) → AreBlanks blanks → fields_of (blanks ++ rest)
    ≡ fields_of rest
blanks_skipped [] rest h = refl
blanks_skipped (b ∷ bs) rest h =
    let both = and_parts (is_blank b) (list_all is_blank bs) h in
    blank_skipped b (bs ++ rest) both.0 ∙ blanks_skipped bs rest both.1

no_blanks_by : (field : List ℕ) → list_any is_blank field ≡ false
    → AllByRecursion (λ b. is_blank b ≡ false) field
no_blanks_by [] h = tt
no_blanks_by (b ∷ bs) h =
    let both = or_parts (is_blank b) (list_any is_blank bs) h in
    (both.0, no_blanks_by bs both.1)

no_blanks : (field : List ℕ) → IsField field → All (λ b. is_blank b ≡ false) field
no_blanks field f = All-from_recursion (λ b. is_blank b ≡ false) field
    (no_blanks_by field f.no_blank)

kept : (field : List ℕ) (pieces : List (List ℕ)) → IsField field
    → filter is_nonempty (field ∷ pieces) ≡ field ∷ filter is_nonempty pieces
kept [] pieces f = absurd (omega (arith, f.some))
kept (b ∷ bs) pieces f = refl

field_first : (field : List ℕ) (b : ℕ) (rest : List ℕ) → IsField field → is_blank b ≡ true
    → fields_of (field ++ b ∷ rest) ≡ field ∷ fields_of rest
field_first field b rest f h =
    ap (filter is_nonempty) (slice_split_at is_blank field b rest (no_blanks field f) h)
    ∙ kept field (slice_split is_blank rest) f

field_last : (field : List ℕ) → IsField field → fields_of field ≡ field ∷ []
field_last field f = ap (filter is_nonempty) (slice_split_none is_blank field (no_blanks field f))
    ∙ kept field [] f

fields_complete : (line : List ℕ) (fields : List (List ℕ)) → AreFields line fields
    → fields_of line ≡ fields
fields_complete line fields (none blanks h) = ap fields_of (sym (append-nil blanks))
    ∙ blanks_skipped blanks [] h
fields_complete line fields (last blanks field h f) = blanks_skipped blanks field h
    ∙ field_last field f
fields_complete line fields (more blanks field b rest others h f blank are) =
    ap fields_of (append_assoc blanks field (b ∷ rest))
    ∙ blanks_skipped blanks (field ++ b ∷ rest) h
    ∙ field_first field b rest f blank
    ∙ ap (λ fs. field ∷ fs) (fields_complete rest others are)

abbrev SomeFields : List ℕ → Type 0
SomeFields line = (fields : List (List ℕ)) × AreFields line fields

blank_more : (b : ℕ) (bs : List ℕ) (fields : List (List ℕ)) → is_blank b ≡ true
    → AreFields bs fields → AreFields (b ∷ bs) fields
blank_more b bs fields blank (none blanks h) =
    none (b ∷ blanks) (and_from (is_blank b) (list_all is_blank blanks) blank h)
blank_more b bs fields blank (last blanks field h f) =
    last (b ∷ blanks) field (and_from (is_blank b) (list_all is_blank blanks) blank h) f
blank_more b bs fields blank (more blanks field c rest others h f end are) =
    more (b ∷ blanks) field c rest others (and_from (is_blank b) (list_all is_blank blanks) blank h)
    f end are

one_byte : (b : ℕ) → is_blank b ≡ false → IsField (b ∷ [])
one_byte b other = record { some = omega arith; no_blank = or_from (is_blank b) false other refl }

longer : (b : ℕ) (field : List ℕ) → is_blank b ≡ false → IsField field → IsField (b ∷ field)
longer b field other f =
    record {
      some = omega arith;
      no_blank = or_from (is_blank b) (list_any is_blank field) other
          f.no_blank;
    }

-- a field begins, or begins earlier
field_more : (b : ℕ) (bs : List ℕ) (fields : List (List ℕ)) → is_blank b ≡ false
    → AreFields bs fields → SomeFields (b ∷ bs)
field_more b bs fields other (none [] h) = ((b ∷ []) ∷ [], last [] (b ∷ []) refl (one_byte b other))
field_more b bs fields other (none (c ∷ cs) h) =
    let both = and_parts (is_blank c) (list_all is_blank cs) h in
    ((b ∷ []) ∷ [], more [] (b ∷ []) c cs [] refl (one_byte b other) both.0 (none cs both.1))
field_more b bs fields other (last [] field h f) =
    ((b ∷ field) ∷ [], last [] (b ∷ field) refl (longer b field other f))
field_more b bs fields other (last (c ∷ cs) field h f) =
    let both = and_parts (is_blank c) (list_all is_blank cs) h in (
      (b ∷ []) ∷ field ∷ [],
      more [] (b ∷ []) c (cs ++ field) (field ∷ []) refl (one_byte b other)
          both.0 (last cs field both.1 f),
    )
field_more b bs fields other (more [] field e rest others h f end are) =
    ((b ∷ field) ∷ others, more [] (b ∷ field) e rest others refl (longer b field other f) end are)
field_more b bs fields other (more (c ∷ cs) field e rest others h f end are) =
    let both = and_parts (is_blank c) (list_all is_blank cs) h in (
      (b ∷ []) ∷ field ∷ others,
      more [] (b ∷ []) c (cs ++ field ++ e ∷ rest) (field ∷ others) refl
          (one_byte b other) both.0 (more cs field e rest others both.1 f end are),
    )

some_fields : (line : List ℕ) → SomeFields line
some_fields [] = ([], none [] refl)
some_fields (b ∷ bs) =
    let others = some_fields bs in
    elim (is_blank b) as (λ v. is_blank b ≡ v → SomeFields (b ∷ bs)) [
      | true ↦ λ t. (others.0, blank_more b bs others.0 t others.1)
      | false ↦ λ f. field_more b bs others.0 f others.1
    ] refl

pub fields_sound : (line : List ℕ) → AreFields line (fields_of line)
fields_sound line =
    let found = some_fields line in
    subst (AreFields line) (sym (fields_complete line found.0 found.1)) found.1

pub fields_are : (line : List ℕ) (fields : List (List ℕ)) → (fields_of line ≡ fields) ↔ AreFields
    line fields
fields_are line fields =
    (λ read. subst (AreFields line) read (fields_sound line), fields_complete line fields)
