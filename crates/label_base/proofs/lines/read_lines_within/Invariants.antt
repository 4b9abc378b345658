use Rattle.std.proofs.Common.{◌≡◌, ◌≤◌, ◌+◌, length}
use Rattle.label_base.specs.Lines.{line_said, lines_of, lines_within}
use Rattle.label_base.proofs.LineLimits.{answer}
use Rattle.label_base.proofs.lines.read_lines_within.Given as goal

-- the values so far, and what the lines that are left make of them
abbrev pub invariant-lines : goal.invariant-lines
invariant-lines g l = record {
  read : lines_within l.room (g.R.LineReader.meaning l.reader) l.bytes
      ≡ answer (line_said (g.R.LineReader.meaning l.reader)) l.room l.values (l.number + 1)
      (lines_of l.left);
  within : length l.values ≤ l.room;
  count : l.number + length l.left ≤ length l.bytes;
}

abbrev pub decreases-lines : goal.decreases-lines
decreases-lines g l = length l.left
