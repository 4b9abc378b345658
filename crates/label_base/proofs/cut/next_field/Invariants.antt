use Rattle.std.proofs.Common.{◌≡◌}
use Rattle.std.specs.Option.{option_copied}
use Rattle.label_base.specs.Lines.{fields_left}
use Rattle.label_base.specs.Pieces.{turns_left}
use Rattle.label_base.proofs.cut.next_field.Given as goal

-- the fields of what is left are those of the line
abbrev pub invariant-loop-left : goal.invariant-loop-left
invariant-loop-left l = fields_left (option_copied l.line) ≡ fields_left (option_copied l.left)

abbrev pub decreases-loop-left : goal.decreases-loop-left
decreases-loop-left l = turns_left (option_copied l.left)
