use Rattle.std.proofs.Common.{arith}
use Rattle.label_base.proofs.LineLimits.{never_many}
use Rattle.label_base.proofs.lines.read_lines.Goals as goal

pub unreachable-requires : goal.unreachable-requires
unreachable-requires g c =
    never_many 4294967295 (g.R.LineReader.meaning c.args.reader.now) c.args.bytes.now (omega arith)
    (rw (c.in-Err-Why-TooMany.field-0-is, c.in-Err-Why-TooMany.field-0-0-is) at
    c.in-Err-Why-TooMany.ensures.read)
