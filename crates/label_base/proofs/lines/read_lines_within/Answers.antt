use Rattle.std.proofs.Common.{◌+◌, arith}
use Rattle.label_base.specs.Lines.{line_said, lines_of}
use Rattle.label_base.proofs.LineLengths.{first_line_short}
use Rattle.label_base.proofs.LineLimits.{reads_on}
use Rattle.label_base.proofs.lines.read_lines_within.Goals as goal

pub add_line-requires-clause-size : goal.add_line-requires-clause-size
add_line-requires-clause-size g c =
    omega (arith, first_line_short c.lines.left.now c.in-Some.line.now _ c.in-Some.ensures.found)

pub lines-preserved : goal.lines-preserved
lines-preserved g c = record {
  read = reads_on (line_said (g.R.LineReader.meaning c.args.reader.now)) _ c.args.room
      c.lines.values c.add_line.new.values
      (c.lines.number + 1) c.in-Some.line.now (lines_of c.lines.left.now)
      (lines_of c.in-Some.rest.now)
      c.lines.invariant.read c.in-Some.ensures.found c.in_ok-add_line.ensures.ok;
  within = c.in_ok-add_line.ensures.within;
  count = omega (arith, c.in-Some.ensures.shorter);
}
