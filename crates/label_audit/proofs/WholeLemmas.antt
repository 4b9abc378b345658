-- All pieces stand exactly where the bytes are their texts, joined.
use Rattle.std.proofs.Common.{◌≡◌, ◌∙◌, sym, refl, ap, ap₂, ℕ, zero, suc, Bool, true, false}
use Rattle.std.proofs.Common.{List, [], ◌∷◌, ◌++◌, drop, get_or, length, map, take, Option, Some}
use Rattle.std.proofs.Common.{None, inl, inr, add-one, append_assoc, append-nil, if◌then◌else◌}
use Rattle.std.specs.Prelude.{◌↔◌, IfSome}
use Rattle.std.specs.List.{filter_map, flat_map}
use Rattle.std.proofs.lemmas.Bool.{cases_Bool}
use Rattle.std.proofs.lemmas.Grind.{flat_map-append}
use Rattle.std.proofs.lemmas.List.{drop_at, map-append}
use Rattle.std.proofs.lemmas.Slice.Eq.{bytes_eq-Decides}
use Rattle.label_base.specs.Bounded.{all_numbers}
use Rattle.file_paths.specs.Path.{Path}
use Rattle.report_text.specs.Message.{Absent, MessageValue}
use Rattle.report_text.specs.Texts.{message_line, report_of}
use Rattle.setfattr_dump.specs.Texts.{dump_text}
use Rattle.run_faults.specs.declared.finding.Finding.TheVariants.{Agrees}
use Rattle.run_faults.specs.declared.finding.Piece.{Piece}
use Rattle.run_faults.specs.declared.finding.Piece.TheVariants.{Entry, Rule}
use Rattle.relabel_core.specs.Changes.{changes, optional_section, section_at}
use Rattle.relabel_core.specs.Report.{absent_text, optional_text, text_below}
use Rattle.relabel_core.specs.Walk.{Walk, absent_lines, walk_count, entry_lines, line, messages}
use Rattle.relabel_core.specs.Walk.{unmatched_line, unmatched_lines}
use Rattle.relabel_core.specs.Walked.{operands_indexed}
use Rattle.relabel_core.proofs.DumpLemmas.{section_more, sections_below}
use Rattle.relabel_core.proofs.ReportLemmas.{report_append, text_more}
use Rattle.label_audit.specs.Finding.{finding_by, finding_of}
use Rattle.label_audit.specs.Pieces.{PlacedPiece, begins, differing, differing_in, dump_pieces}
use Rattle.label_audit.specs.Pieces.{end_differs, entry_pieces, operand_piece}
use Rattle.label_audit.specs.Pieces.{operand_pieces, piece_placed, report_pieces, section_piece}
use Rattle.label_audit.specs.Pieces.{spec_piece, spec_pieces}
use Rattle.label_audit.specs.Whole.{AreWhole}

-- the texts of pieces, joined
abbrev pub pieces_joined : List PlacedPiece → List ℕ
pieces_joined pieces = flat_map (λ next. next.text) pieces

-- ---- one list of pieces

take_drop : (n : ℕ) (xs : List ℕ) → take n xs ++ drop n xs ≡ xs
take_drop zero xs = refl
take_drop (suc n) [] = refl
take_drop (suc n) (x ∷ xs) = ap (λ ys. x ∷ ys) (take_drop n xs)

take_front : (xs ys : List ℕ) → take (length xs) (xs ++ ys) ≡ xs
take_front [] ys = refl
take_front (x ∷ xs) ys = ap (λ zs. x ∷ zs) (take_front xs ys)

-- bytes that begin with a text are it and what is left
fronted : (bytes text : List ℕ) → begins bytes text ≡ true → bytes ≡ text ++ drop (length text)
    bytes
fronted bytes text h =
    sym (take_drop (length text) bytes) ∙ ap (λ front. front ++ drop (length text) bytes)
    ((bytes_eq-Decides (take (length text) bytes) text).0 h)

front_begins : (bytes text rest : List ℕ) → bytes ≡ text ++ rest → begins bytes text ≡ true
front_begins bytes text rest is = (bytes_eq-Decides (take (length text) bytes) text).1
    (ap (take (length text)) is ∙ take_front text rest)

pub all_stand : (pieces : List PlacedPiece) (bytes : List ℕ) → differing pieces bytes ≡ None
    → bytes ≡ pieces_joined pieces
all_stand [] [] h = refl
all_stand [] (b ∷ bytes) h = absurd cc
all_stand (next ∷ pieces) bytes h =
    elim (cases_Bool (begins bytes next.text)) [
      | inl here ↦
          (let rest = all_stand pieces (drop (length next.text) bytes)
          (sym (ap (λ b. if b then differing pieces (drop (length next.text) bytes) else Some
          next.piece) here) ∙ h) in
          fronted bytes next.text here ∙ ap (λ t. next.text ++ t) rest)
      | inr falls ↦ absurd
          (let e : Some next.piece
          ≡ None = sym
          (ap (λ b. if b then differing pieces (drop (length next.text) bytes) else Some next.piece)
          falls) ∙ h in cc)
    ]

pub whole_stands : (pieces : List PlacedPiece) (bytes : List ℕ) → bytes ≡ pieces_joined pieces
    → differing pieces bytes ≡ None
whole_stands [] bytes is = ap end_differs is
whole_stands (next ∷ pieces) bytes is =
    ap (λ b. if b then differing pieces (drop (length next.text) bytes) else Some next.piece)
    (front_begins bytes next.text (pieces_joined pieces) is)
    ∙ whole_stands pieces (drop (length next.text) bytes) (ap (drop (length next.text)) is
    ∙ drop_at next.text (pieces_joined pieces) (length next.text) refl)

-- ---- what is joined is the report, and the dump

joined_append : (xs ys : List PlacedPiece) → pieces_joined (xs ++ ys) ≡ pieces_joined xs
    ++ pieces_joined ys
joined_append xs ys = flat_map-append (λ (next : PlacedPiece). next.text) xs ys

lines_joined : (piece : ℕ → Piece) (line : ℕ → Option MessageValue) (n : ℕ)
    → pieces_joined (map (λ i. piece_placed (piece i) (optional_text (line i))) (all_numbers n))
    ≡ text_below line n
unfolding report_of
lines_joined piece line zero = refl
lines_joined piece line (suc n) =
    ap pieces_joined (map-append (λ i. piece_placed (piece i) (optional_text (line i)))
    (all_numbers n) (n ∷ []))
    ∙ joined_append (map (λ i. piece_placed (piece i) (optional_text (line i))) (all_numbers n))
    (piece_placed (piece n) (optional_text (line n)) ∷ [])
    ∙ ap₂ (λ a b. a ++ b) (lines_joined piece line n) (append-nil (optional_text (line n)))
    ∙ sym (text_more line n) ∙ ap (text_below line) (add-one n)

operands_joined : (operands : List Path) (absent : List ℕ)
    → pieces_joined (map (operand_piece operands) absent) ≡ absent_text operands absent
unfolding report_of
operands_joined operands [] = refl
operands_joined operands (i ∷ absent) = ap (λ t. message_line (Absent (get_or operands i [])) ++ t)
    (operands_joined operands absent)

absent_if : (b : Bool) (paths : List Path) (operands : List Path) (absent : List ℕ)
    → paths ≡ operands_indexed operands absent
    → pieces_joined (if b then [] else map (operand_piece operands) absent)
    ≡ report_of (if b then [] else map Absent paths)
unfolding report_of
absent_if true paths operands absent is = refl
absent_if false paths operands absent is = operands_joined operands absent
    ∙ ap (λ ps. report_of (map Absent ps)) (sym is)

absent_joined : (w : Walk) (operands : List Path) (absent : List ℕ)
    → w.absent ≡ operands_indexed operands absent → pieces_joined (operand_pieces w operands absent)
    ≡ report_of (absent_lines w)
absent_joined w operands absent is = absent_if w.options.ignore_absent w.absent operands absent is

specs_if : (b : Bool) (w : Walk) (n : ℕ)
    → pieces_joined (if b then map (spec_piece w) (all_numbers n) else [])
    ≡ report_of (if b then filter_map (unmatched_line w) (all_numbers n) else [])
unfolding report_of
specs_if true w n = lines_joined Rule (unmatched_line w) n
specs_if false w n = refl

specs_joined : (w : Walk) → pieces_joined (spec_pieces w) ≡ report_of (unmatched_lines w)
specs_joined w = specs_if w.options.warn_unmatched w (length w.rules.rules)

pub report_joined : (w : Walk) (operands : List Path) (absent : List ℕ)
    → w.absent ≡ operands_indexed operands absent → pieces_joined (report_pieces w operands absent)
    ≡ report_of (messages w)
report_joined w operands absent is =
    joined_append (operand_pieces w operands absent) (entry_pieces w ++ spec_pieces w)
    ∙ ap₂ (λ a b. a ++ b) (absent_joined w operands absent is)
    (joined_append (entry_pieces w) (spec_pieces w)
    ∙ ap₂ (λ a b. a ++ b) (lines_joined Entry (line w) (walk_count w)) (specs_joined w))
    ∙ sym (append_assoc (report_of (absent_lines w)) (report_of (entry_lines w))
    (report_of (unmatched_lines w)))
    ∙ sym (report_append (absent_lines w ++ entry_lines w) (unmatched_lines w)
    ∙ ap (λ t. t ++ report_of (unmatched_lines w))
    (report_append (absent_lines w) (entry_lines w)))

sections_joined : (w : Walk) (n : ℕ) → pieces_joined (map (section_piece w) (all_numbers n))
    ≡ sections_below w n
unfolding dump_text
sections_joined w zero = refl
sections_joined w (suc n) =
    ap pieces_joined (map-append (section_piece w) (all_numbers n) (n ∷ []))
    ∙ joined_append (map (section_piece w) (all_numbers n)) (section_piece w n ∷ [])
    ∙ ap₂ (λ a b. a ++ b) (sections_joined w n) (append-nil (optional_section (section_at w n)))
    ∙ section_more w n [] (sections_below w n)
    (sections_below w n ++ optional_section (section_at w n)) refl refl
    ∙ ap (sections_below w) (add-one n)

-- ---- where an audit agrees

none_differs : (in_report in_dump : Option Piece) → finding_by in_report in_dump ≡ Agrees
    → (in_report ≡ None) × (in_dump ≡ None)
none_differs (Some piece) in_dump h = absurd cc
none_differs None (Some piece) h = absurd cc
none_differs None None h = (refl, refl)

dump_stands : (w : Walk) (dump : Option (List ℕ)) → differing_in (dump_pieces w) dump ≡ None
    → IfSome dump (λ bytes. bytes ≡ dump_text (changes w))
dump_stands w None h = tt
dump_stands w (Some bytes) h = all_stand (dump_pieces w) bytes h ∙ sections_joined w (walk_count w)

dump_agrees : (w : Walk) (dump : Option (List ℕ))
    → IfSome dump (λ bytes. bytes ≡ dump_text (changes w)) → differing_in (dump_pieces w) dump
    ≡ None
dump_agrees w None h = refl
dump_agrees w (Some bytes) h =
    whole_stands (dump_pieces w) bytes (h ∙ sym (sections_joined w (walk_count w)))

pub agrees_where_whole : (w : Walk) (operands : List Path) (absent : List ℕ) (report : List ℕ)
    (dump : Option (List ℕ)) → w.absent ≡ operands_indexed operands absent
    → (finding_of w operands absent report dump ≡ Agrees) ↔ AreWhole w report dump
unfolding finding_of
agrees_where_whole w operands absent report dump is = (
  (λ h. (let none = none_differs (differing (report_pieces w operands absent) report)
      (differing_in (dump_pieces w) dump) h in (
        all_stand (report_pieces w operands absent) report none.0
            ∙ report_joined w operands absent is,
        dump_stands w dump none.1,
      ))),
  (λ whole. ap₂ finding_by
      (whole_stands (report_pieces w operands absent) report
      (whole.0 ∙ sym (report_joined w operands absent is))) (dump_agrees w dump whole.1)),
)
