use Rattle.std.proofs.Common.{◌+◌, arith}
use Rattle.label_base.specs.Answers.{fault_cause}
use Rattle.label_base.specs.Lines.{lines_of}
use Rattle.setfattr_dump.specs.Reading.{dump_read}
use Rattle.setfattr_dump.proofs.LineLemmas.{ended, refused_or_none, taken}
use Rattle.setfattr_dump.proofs.reading.read_sections.Goals as goal

pub lines-preserved : goal.lines-preserved
lines-preserved c = record {
  read = taken (c.lines.number + 1) c.lines.so_far c.take_line.new.so_far c.in-Some.line.now
      (lines_of c.lines.left.now) (lines_of c.in-Some.rest.now) (dump_read c.args.bytes.now)
      c.lines.invariant.read c.in-Some.ensures.found c.in-Ok.ensures.ok;
  count = omega (arith, c.in-Some.ensures.shorter);
}

pub returns-in-Err : goal.returns-in-Err
returns-in-Err c =
    refused_or_none (c.lines.number + 1) c.lines.so_far c.in-Some.line.now
    (lines_of c.lines.left.now) (lines_of c.in-Some.rest.now) (dump_read c.args.bytes.now)
    (fault_cause c.in-Err.fault) (fault_cause c.refused_at.result) c.refused_at.ensures
    c.lines.invariant.read c.in-Some.ensures.found c.in-Err.ensures.err

pub returns : goal.returns
returns c =
    ended (c.lines.number + 1) c.lines.so_far c.close.new.so_far (lines_of c.lines.left.now)
    (dump_read c.args.bytes.now) c.lines.invariant.read c.in_default.ensures.none
    c.in_ok-close.ensures
