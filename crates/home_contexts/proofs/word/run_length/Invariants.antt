use Rattle.std.proofs.Common.{◌≡◌, ◌++◌, ◌≤◌, ◌-◌, drop, length, map, take}
use Rattle.home_contexts.specs.Words.{template_pieces}
use Rattle.home_contexts.specs.declared.word.FieldPiece.TheVariants.{Byte}
use Rattle.home_contexts.proofs.word.run_length.Given as goal

abbrev pub invariant-bytes : goal.invariant-bytes
invariant-bytes l = record {
  within : l.at ≤ length l.field;
  pieces : template_pieces l.field ≡ map Byte (take l.at l.field) ++ template_pieces
      (drop l.at l.field);
}

abbrev pub decreases-bytes : goal.decreases-bytes
decreases-bytes l = length l.field - l.at
