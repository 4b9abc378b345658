use Rattle.std.proofs.Common.{◌≡◌}
use Rattle.std.specs.Option.{option_copied}
use Rattle.label_base.specs.Escape.{in_front}
use Rattle.label_base.specs.Pieces.{turns_left}
use Rattle.setfattr_dump.specs.Values.{Nothing, text_left, text_read}
use Rattle.setfattr_dump.proofs.value.read_text.Given as goal

-- what was read, before what is left reads as, is what the text reads as
abbrev pub invariant-pieces : goal.invariant-pieces
invariant-pieces l = in_front l.read (text_left (option_copied l.left)) ≡ text_read Nothing l.text

abbrev pub decreases-pieces : goal.decreases-pieces
decreases-pieces l = turns_left (option_copied l.left)
