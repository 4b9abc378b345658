use Rattle.std.proofs.Common.{◌≡◌, ◌≤◌, ◌+◌, length}
use Rattle.label_base.specs.Lines.{lines_of, with_front}
use Rattle.setfattr_dump.specs.Reading.{dump_read, sections_from}
use Rattle.setfattr_dump.proofs.reading.read_sections.Given as goal

-- the sections so far, and what the lines that are left make of them
abbrev pub invariant-lines : goal.invariant-lines
invariant-lines l = record {
  read : with_front l.so_far.sections
      (sections_from (l.number + 1) l.so_far.name l.so_far.attrs (lines_of l.left))
      ≡ dump_read l.bytes;
  count : l.number + length l.left ≤ length l.bytes;
}

abbrev pub decreases-lines : goal.decreases-lines
decreases-lines l = length l.left
