-- What contracts see of a file that is compared with pieces.
use Rattle.std.specs.Prelude.{◌≡◌, ℕ, Bool, false, is_none, List, Option, Some, None}
use Rattle.run_faults.specs.declared.finding.Piece.{Piece}
use Rattle.run_faults.specs.declared.finding.Piece.TheVariants.{Rule}
use Rattle.label_rules.specs.declared.rules.Rules.{Rules}
use Rattle.relabel_core.specs.Report.{AreRaised, optional_text, unflagged_line}
use Rattle.relabel_core.specs.Walk.{Walk}
use Rattle.label_audit.specs.Ahead.{IsAhead}
use Rattle.label_audit.specs.Looking.{AreReady}
use Rattle.label_audit.specs.Pieces.{PlacedPiece, differing, differing_in, piece_placed}
use Rattle.label_audit.specs.declared.compared.Compared.{Compared}
use Rattle.label_audit.specs.declared.entries.Audit.{Audit}

-- the piece that didn't stand, or the first of these behind the bytes that did
abbrev pub differs_or : Option Piece → List ℕ → List PlacedPiece → Option Piece
differs_or (Some piece) left pieces = Some piece
differs_or None left pieces = differing pieces left

-- the first piece that doesn't stand, where these follow
abbrev pub next_behind : Compared → List PlacedPiece → Option Piece
next_behind file pieces = differs_or file.differs file.left.now pieces

-- of a file that isn't there, none
abbrev pub behind_of : Option Compared → List PlacedPiece → Option Piece
behind_of None pieces = None
behind_of (Some file) pieces = next_behind file pieces

-- there is a file, all pieces of which stood so far
abbrev pub is_compared_open : Option Compared → Bool
is_compared_open None = false
is_compared_open (Some file) = is_none file.differs

-- an audit before its first piece
pub record IsOpened (w : Walk) (report : List ℕ) (dump : Option (List ℕ)) (audit : Audit)
    : Type 0 where
  pub report_is : (pieces : List PlacedPiece) → next_behind audit.report.file pieces
      ≡ differing pieces report
  pub dump_is : (pieces : List PlacedPiece) → behind_of audit.dump pieces ≡ differing_in pieces dump
  pub ahead : IsAhead w 0 audit.ahead
  pub flags : AreRaised w 0 audit.flags.items
  pub ready : AreReady w audit.lookups

-- the line of a specification whose flag is not raised
abbrev pub unflagged_piece : Rules → List Bool → ℕ → PlacedPiece
unflagged_piece rules flags i = piece_placed (Rule i) (optional_text (unflagged_line rules flags i))
