-- The pieces of which a report and a dump are made, and the first that a file doesn't hold.
use Rattle.std.specs.Prelude.{ℕ, Bool, List, [], ◌∷◌, ◌++◌, length, map, get_or, take, drop, Option}
use Rattle.std.specs.Prelude.{Some, None, if◌then◌else◌}
use Rattle.label_base.specs.Bounded.{all_numbers}
use Rattle.label_base.specs.Text.{same_bytes}
use Rattle.file_paths.specs.Path.{Path}
use Rattle.report_text.specs.Message.{Absent}
use Rattle.report_text.specs.Texts.{message_line}
use Rattle.run_faults.specs.declared.finding.Piece.{Piece}
use Rattle.run_faults.specs.declared.finding.Piece.TheVariants.{Operand, Entry, Rule, End}
use Rattle.relabel_core.specs.Changes.{optional_section, section_at}
use Rattle.relabel_core.specs.Report.{optional_text}
use Rattle.relabel_core.specs.Walk.{Walk, walk_count, line, unmatched_line}

-- a piece, and its text
pub record PlacedPiece : Type 0 where
  pub piece : Piece
  pub text : List ℕ

abbrev pub piece_placed : Piece → List ℕ → PlacedPiece
piece_placed piece text = record { piece = piece; text = text }

-- ---- what a report and a dump are made of

-- the line of an operand that has no entry
abbrev pub operand_piece : List Path → ℕ → PlacedPiece
operand_piece operands i = piece_placed (Operand i) (message_line (Absent (get_or operands i [])))

-- the line of an entry, or nothing where it has none
abbrev pub entry_piece : Walk → ℕ → PlacedPiece
entry_piece w e = piece_placed (Entry e) (optional_text (line w e))

-- the line of a specification that decides no entry, or nothing
abbrev pub spec_piece : Walk → ℕ → PlacedPiece
spec_piece w i = piece_placed (Rule i) (optional_text (unmatched_line w i))

-- the section of an entry, or nothing where neither its label nor its digest changes
abbrev pub section_piece : Walk → ℕ → PlacedPiece
section_piece w e = piece_placed (Entry e) (optional_section (section_at w e))

-- the operands with these indices have no entry
abbrev pub operand_pieces : Walk → List Path → List ℕ → List PlacedPiece
operand_pieces w operands absent =
    if w.options.ignore_absent then [] else map (operand_piece operands) absent

abbrev pub entry_pieces : Walk → List PlacedPiece
entry_pieces w = map (entry_piece w) (all_numbers (walk_count w))

abbrev pub spec_pieces : Walk → List PlacedPiece
spec_pieces w =
    if w.options.warn_unmatched
    then map (spec_piece w) (all_numbers (length w.rules.rules))
    else []

-- the pieces of a report, one behind the other
abbrev pub report_pieces : Walk → List Path → List ℕ → List PlacedPiece
report_pieces w operands absent =
    operand_pieces w operands absent ++ (entry_pieces w ++ spec_pieces w)

-- the pieces of a dump
abbrev pub dump_pieces : Walk → List PlacedPiece
dump_pieces w = map (section_piece w) (all_numbers (walk_count w))

-- ---- where they stand

-- the bytes begin with the text
abbrev pub begins : List ℕ → List ℕ → Bool
begins bytes text = same_bytes (take (length text) bytes) text

-- what stands behind the last piece is nothing
abbrev pub end_differs : List ℕ → Option Piece
end_differs [] = None
end_differs (b ∷ bytes) = Some End

-- The first piece that doesn't stand: that the bytes don't hold behind those before it, which did.
-- Where all do, it is the end, unless no bytes are left.
abbrev pub differing : List PlacedPiece → List ℕ → Option Piece
differing [] bytes = end_differs bytes
differing (next ∷ pieces) bytes =
    if begins bytes next.text
    then differing pieces (drop (length next.text) bytes)
    else Some next.piece

-- the first of the pieces that doesn't stand in a file, where there is one
abbrev pub differing_in : List PlacedPiece → Option (List ℕ) → Option Piece
differing_in pieces None = None
differing_in pieces (Some bytes) = differing pieces bytes
