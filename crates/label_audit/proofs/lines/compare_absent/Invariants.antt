use Rattle.std.proofs.Common.{◌≡◌, ◌++◌, List, drop, map}
use Rattle.label_audit.specs.Compared.{next_behind}
use Rattle.label_audit.specs.Pieces.{PlacedPiece, operand_piece}
use Rattle.label_audit.proofs.lines.compare_absent.Given as goal

-- the pieces left, behind those that were compared
abbrev pub invariant-operands : goal.invariant-operands
invariant-operands l = (rest : List PlacedPiece)
    → next_behind l.report.file (map (operand_piece l.operands) (drop l.i-index l.indices) ++ rest)
    ≡ next_behind l.initial.report.file (map (operand_piece l.operands) l.indices ++ rest)
