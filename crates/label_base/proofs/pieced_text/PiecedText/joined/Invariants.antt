use Rattle.std.proofs.Common.{◌≡◌, take}
use Rattle.std.specs.List.{concat}
use Rattle.label_base.proofs.pieced_text.PiecedText.joined.Given as goal

-- the pieces so far
abbrev pub invariant-pieces : goal.invariant-pieces
invariant-pieces l = l.text ≡ concat (take l.piece-index l.pieces)
