use Rattle.std.proofs.Common.{arith}
use Rattle.label_base.proofs.LineLengths.{first_field_short}
use Rattle.label_base.proofs.lines.add_line.Goals as goal

pub read_line-requires : goal.read_line-requires
read_line-requires g c =
    omega (arith, first_field_short c.args.line.now c.in-Some.first.now _ c.in-Some.ensures.found)
