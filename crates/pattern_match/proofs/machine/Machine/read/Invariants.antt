use Rattle.std.proofs.Common.{◌≡◌, take}
use Rattle.pattern_match.specs.States.{AreMarksOf, IsRead}
use Rattle.pattern_match.proofs.machine.Machine.read.Given as goal

abbrev pub invariant-loop-byte : goal.invariant-loop-byte
invariant-loop-byte l = AreMarksOf l.self l.marks.marks
    × IsRead l.self l.marks.marks (take l.byte-index l.text)
    × (l.marks.room ≡ l.fn.marks.room)
