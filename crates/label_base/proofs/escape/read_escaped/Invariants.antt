use Rattle.std.proofs.Common.{◌≡◌}
use Rattle.std.specs.Option.{option_copied}
use Rattle.label_base.specs.Escape.{in_front, unescaped, unescaped_left}
use Rattle.label_base.specs.Pieces.{turns_left}
use Rattle.label_base.proofs.escape.read_escaped.Given as goal

-- what was read, before what is left reads as, is what the text reads as
abbrev pub invariant-pieces : goal.invariant-pieces
invariant-pieces l = in_front l.read (unescaped_left (option_copied l.left)) ≡ unescaped l.bytes

abbrev pub decreases-pieces : goal.decreases-pieces
decreases-pieces l = turns_left (option_copied l.left)
