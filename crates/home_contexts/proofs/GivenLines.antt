-- A given line is read as its fields.
use Rattle.std.proofs.Common.{◌≡◌, ◌∙◌, sym, refl, ap, subst, ℕ, ◌<◌, ◌==◌, Bool, true, false, cond}
use Rattle.std.proofs.Common.{List, [], ◌∷◌, ◌++◌, length, append_assoc, append-nil, inl, inr}
use Rattle.std.proofs.Common.{arith}
use Rattle.std.specs.Prelude.{Contains, Option, Some, None, Result, Ok, Err, not}
use Rattle.std.specs.List.{enumerate_from, list_all, list_any}
use Rattle.std.specs.Cmp.{first_so, second_so}
use Rattle.std.proofs.lemmas.Bool.{false≢true, or_from, or_parts}
use Rattle.std.proofs.lemmas.List.Folds.{list_any-append}
use Rattle.label_base.specs.Lines.{accepted, fields_of, fields_said, is_blank, is_comment, limited}
use Rattle.label_base.specs.Lines.{line_said, lines_of, read_from, some_value}
use Rattle.label_base.specs.LineGrammar.{AreFields, IsField, none, last, more}
use Rattle.file_roles.specs.declared.role.Part.TheVariants.{Homedirs}
use Rattle.label_base.specs.declared.lines.LinesWhy.{LinesWhy}
use Rattle.label_base.specs.declared.lines.RefusedLine.{RefusedLine}
use Rattle.label_base.specs.declared.lines.LinesWhy.TheVariants.{Refused, TooMany}
use Rattle.label_base.proofs.FirstCut.{cut}
use Rattle.label_base.proofs.LineCuts.{fields_are, lines_are}
use Rattle.spec_reader.specs.SpecLines.{spec_of_fields, specs_of}
use Rattle.spec_reader.specs.SpecValue.{SpecValue}
use Rattle.spec_reader.specs.declared.spec_fault.SpecWhy.{SpecWhy}
use Rattle.home_contexts.specs.Homes.{line_text, refusal_of, tabbed}
use Rattle.home_contexts.specs.Making.{are_parts, is_feed, is_part}
use Rattle.home_contexts.specs.User.{ends_field}

-- ---- fields

pub not_true : (t : Bool) → not t ≡ true → t ≡ false
not_true true h = sym h
not_true false h = refl

pub part_ends : (field : List ℕ) → is_part field ≡ true → list_any ends_field field ≡ false
part_ends field h = not_true (list_any ends_field field) (second_so (not (length field == 0)) (not
    (list_any ends_field field)) h)

some_byte : (field : List ℕ) → not (length field == 0) ≡ true → 0 < length field
some_byte [] h = absurd (false≢true h)
some_byte (b ∷ bs) h = omega arith

pub part_some : (field : List ℕ) → is_part field ≡ true → 0 < length field
part_some field h = some_byte field (first_so (not (length field == 0)) (not (list_any ends_field
    field)) h)

no_blanks : (bytes : List ℕ) → list_any ends_field bytes ≡ false → list_any is_blank bytes ≡ false
no_blanks [] h = refl
no_blanks (b ∷ bs) h =
    let both = or_parts (ends_field b) (list_any ends_field bs) h in
    or_from (is_blank b) (list_any is_blank bs) (or_parts (is_blank b) (is_feed b) both.0).0
    (no_blanks bs both.1)

no_feeds : (bytes : List ℕ) → list_any ends_field bytes ≡ false → list_any is_feed bytes ≡ false
no_feeds [] h = refl
no_feeds (b ∷ bs) h =
    let both = or_parts (ends_field b) (list_any ends_field bs) h in
    or_from (is_feed b) (list_any is_feed bs) (or_parts (is_blank b) (is_feed b) both.0).1 (no_feeds
    bs both.1)

part_field : (field : List ℕ) → is_part field ≡ true → IsField field
part_field field h = record {
  some = part_some field h;
  no_blank = no_blanks field (part_ends field
      h);
}

-- ---- a line

-- the fields parted by tabs
abbrev pub body : List (List ℕ) → List ℕ
body [] = []
body (field ∷ others) = field ++ tabbed others

body_fields : (field : List ℕ) (others : List (List ℕ)) → list_all is_part (field ∷ others) ≡ true →
    AreFields (field ++ tabbed others) (field ∷ others)
body_fields field [] h =
    subst (λ text. AreFields text (field ∷ [])) (sym (append-nil field)) (last [] field refl
    (part_field field (first_so (is_part field) true h)))
body_fields field (other ∷ rest) h =
    let parts = second_so (is_part field) (list_all is_part (other ∷ rest)) h in
    more [] field 9 (other ++ tabbed rest) (other ∷ rest) refl (part_field field (first_so (is_part
    field) (list_all is_part (other ∷ rest)) h)) refl (body_fields other rest parts)

tabbed_feeds : (fields : List (List ℕ)) → list_all is_part fields ≡ true → list_any is_feed (tabbed
    fields) ≡ false
tabbed_feeds [] h = refl
tabbed_feeds (field ∷ fields) h =
    list_any-append is_feed field (tabbed fields)
    ∙ or_from (list_any is_feed field) (list_any is_feed (tabbed fields)) (no_feeds field (part_ends
    field (first_so (is_part field) (list_all is_part fields) h)))
    (tabbed_feeds fields (second_so (is_part field) (list_all is_part fields) h))

body_feeds : (fields : List (List ℕ)) → list_all is_part fields ≡ true → list_any is_feed (body
    fields) ≡ false
body_feeds [] h = refl
body_feeds (field ∷ fields) h =
    list_any-append is_feed field (tabbed fields)
    ∙ or_from (list_any is_feed field) (list_any is_feed (tabbed fields)) (no_feeds field (part_ends
    field (first_so (is_part field) (list_all is_part fields) h)))
    (tabbed_feeds fields (second_so (is_part field) (list_all is_part fields) h))

pub lacks_feed : (bytes : List ℕ) → list_any is_feed bytes ≡ false → ¬ Contains bytes 10
lacks_feed bytes h =
    elim (cut 10 bytes) [
      | inl lacks ↦ lacks
      | inr c ↦
          let apart : list_any is_feed (c.first ++ 10 ∷ c.rest) ≡ false = ap (list_any is_feed) (sym
          c.text) ∙ h in
          let both = or_parts (list_any is_feed c.first) (list_any is_feed (10 ∷ c.rest)) (sym
          (list_any-append is_feed c.first (10 ∷ c.rest)) ∙ apart) in
          absurd (false≢true (sym both.1))
    ]

all_parts : (fields : List (List ℕ)) → are_parts fields ≡ true → list_all is_part fields ≡ true
all_parts [] h = refl
all_parts (field ∷ fields) h = second_so (not (is_comment field)) (list_all is_part (field ∷
    fields)) h

pub line_body : (fields : List (List ℕ)) → line_text fields ≡ body fields ++ 10 ∷ []
line_body [] = refl
line_body (field ∷ others) = sym (append_assoc field (tabbed others) (10 ∷ []))

pub body_lacks : (fields : List (List ℕ)) → are_parts fields ≡ true → ¬ Contains (body fields) 10
body_lacks fields h = lacks_feed (body fields) (body_feeds fields (all_parts fields h))

pub body_cut : (fields : List (List ℕ)) → are_parts fields ≡ true → fields_of (body fields) ≡ fields
body_cut [] h = absurd (false≢true h)
body_cut (field ∷ others) h = (fields_are (body (field ∷ others)) (field ∷ others)).1 (body_fields
    field others (all_parts (field ∷ others) h))

fields_say : {B W : Type 0} (meaning : List (List ℕ) → Result B W) (fields : List (List ℕ)) →
    are_parts fields ≡ true → fields_said meaning fields ≡ some_value (meaning fields)
fields_say meaning [] h = absurd (false≢true h)
fields_say meaning (field ∷ others) h =
    ap (λ t. cond t (Ok None) (some_value (meaning (field ∷ others)))) (not_true (is_comment field)
    (first_so (not (is_comment field)) (list_all is_part (field ∷ others)) h))

pub body_says : {B W : Type 0} (meaning : ℕ → List (List ℕ) → Result B W) (number : ℕ) (fields :
    List (List ℕ)) → are_parts fields ≡ true → line_said meaning number (body fields) ≡ some_value
    (meaning number fields)
body_says meaning number fields h = ap (fields_said (meaning number)) (body_cut fields h) ∙
    fields_say (meaning number) fields h

-- ---- a line alone

abbrev alone : Result SpecValue SpecWhy → Result (List SpecValue) (LinesWhy SpecWhy)
alone (Ok spec) = Ok (spec ∷ [])
alone (Err why) = Err (Refused (record { number = 1; why = why }))

said_alone : (said : ℕ → List ℕ → Result (Option SpecValue) SpecWhy) (line : List ℕ) (read : Result
    SpecValue SpecWhy) → said 1 line ≡ some_value read
    → limited 1 (accepted said ((1, line) ∷ [])) (read_from said 1 (line ∷ [])) ≡ alone read
said_alone said line (Ok spec) h = rw (h, h) refl
said_alone said line (Err why) h = rw h refl

line_alone : (fields : List (List ℕ)) → are_parts fields ≡ true → lines_of (line_text fields) ≡ body
    fields ∷ []
line_alone fields h =
    ap lines_of (line_body fields) ∙ (lines_are (body fields ++ 10 ∷ []) (body fields ∷ [])).1 (more
    (body fields) [] [] (body_lacks fields h) none)

read_alone : (fields : List (List ℕ)) → are_parts fields ≡ true → specs_of Homedirs 1 (line_text
    fields) ≡ alone (spec_of_fields Homedirs 1 fields)
read_alone fields h =
    let said : ℕ → List ℕ → Result (Option SpecValue) SpecWhy =
    line_said (spec_of_fields Homedirs) in
    ap (λ lines. limited 1 (accepted (line_said (spec_of_fields Homedirs)) (enumerate_from 1 lines))
    (read_from (line_said (spec_of_fields Homedirs)) 1 lines)) (line_alone fields h)
    ∙ said_alone (line_said (spec_of_fields Homedirs)) (body fields)
    (spec_of_fields Homedirs 1 fields) (body_says
    (spec_of_fields Homedirs) 1 fields h)

meant_alone : (line : List ℕ) (fields : List (List ℕ)) (meant : Result (List SpecValue) (LinesWhy
    SpecWhy)) → are_parts fields ≡ true → line ≡ line_text fields → specs_of Homedirs 1 line ≡
    meant → meant ≡ alone (spec_of_fields Homedirs 1 fields)
meant_alone line fields meant h same read = sym read ∙ ap (specs_of Homedirs 1) same ∙ read_alone
    fields h

ok_alone : (read : Result SpecValue SpecWhy) (specs : List SpecValue) → Ok specs ≡ alone read →
    (spec : SpecValue) × (read ≡ Ok spec)
ok_alone (Ok spec) specs h = (spec, refl)
ok_alone (Err why) specs h = absurd (let e : Ok specs ≡ Err (Refused (record {
  number = 1;
  why = why;
})) = h in cc)

many_alone : (read : Result SpecValue SpecWhy) → Err TooMany ≡ alone read → (spec : SpecValue) ×
    (read ≡ Ok spec)
many_alone (Ok spec) h = (spec, refl)
many_alone (Err why) h = absurd (let e : Err TooMany ≡ Err (Refused (record {
  number = 1;
  why = why;
})) = h in cc)

refused_alone : (read : Result SpecValue SpecWhy) (refused : RefusedLine SpecWhy) → Err (Refused
    refused) ≡ alone read → read ≡ Err refused.why
refused_alone (Ok spec) refused h = absurd (let e : Err (Refused refused) ≡ Ok (spec ∷ []) = h in
    cc)
refused_alone (Err why) refused h =
    let e : Err (Refused refused) ≡ Err (Refused (record { number = 1; why = why })) = h in
    let same : refused ≡ record { number = 1; why = why } = cc in
    ap Err (sym (ap (λ (r : RefusedLine SpecWhy). r.why) same))

pub line_accepted : (line : List ℕ) (fields : List (List ℕ)) (specs : List SpecValue) → are_parts
    fields ≡ true → line ≡ line_text fields → specs_of Homedirs 1 line ≡ Ok specs → (spec :
    SpecValue) × (spec_of_fields Homedirs 1 fields ≡ Ok spec)
line_accepted line fields specs h same read = ok_alone (spec_of_fields Homedirs 1 fields) specs
    (meant_alone line fields (Ok specs) h same read)

pub line_refused : (number : ℕ) (line : List ℕ) (fields : List (List ℕ)) (refused : RefusedLine
    SpecWhy) → are_parts fields ≡ true → line ≡ line_text fields → specs_of Homedirs 1 line ≡ Err
    (Refused refused)
    → refusal_of number (spec_of_fields Homedirs 1 fields) ≡ Some (record {
      number = number;
      why =
          refused.why;
    })
line_refused number line fields refused h same read =
    ap (refusal_of number) (refused_alone (spec_of_fields
    Homedirs 1 fields) refused (meant_alone line fields (Err (Refused refused)) h same read))

pub line_many : (line : List ℕ) (fields : List (List ℕ)) → are_parts fields ≡ true → line ≡
    line_text fields → specs_of Homedirs 1 line ≡ Err TooMany → (spec : SpecValue) × (spec_of_fields
    Homedirs 1 fields ≡ Ok spec)
line_many line fields h same read = many_alone (spec_of_fields Homedirs 1 fields)
    (meant_alone line fields
    (Err TooMany) h same read)
