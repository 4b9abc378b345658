use Rattle.std.proofs.Common.{◌∙◌, arith}
use Rattle.pattern_match.proofs.Classes.{class_takes}
use Rattle.pattern_match.proofs.entry.has_byte.Goals as goal

pub returns : goal.returns
returns c =
    c.has.ensures ∙ class_takes c.args.class.now c.args.byte (omega (arith, c.ranges))
