use Rattle.std.proofs.Common.{◌≡◌, ◌++◌, List, drop, length, map}
use Rattle.label_base.specs.Bounded.{all_numbers}
use Rattle.label_audit.specs.Compared.{next_behind, unflagged_piece}
use Rattle.label_audit.specs.Pieces.{PlacedPiece}
use Rattle.label_audit.proofs.lines.compare_unflagged.Given as goal

-- the pieces left, behind those that were compared
abbrev pub invariant-specs : goal.invariant-specs
invariant-specs l = (rest : List PlacedPiece)
    → next_behind l.report.file
    (drop l.i (map (unflagged_piece l.rules l.flags) (all_numbers (length l.rules.rules)))
    ++ rest)
    ≡ next_behind l.initial.report.file
    (map (unflagged_piece l.rules l.flags) (all_numbers (length l.rules.rules)) ++ rest)
