use Rattle.std.proofs.Common.{◌∙◌}
use Rattle.pattern_match.proofs.OpenParts.{seam}
use Rattle.pattern_match.proofs.part.last_part_start.Goals as goal

pub returns-clause-start : goal.returns-clause-start
returns-clause-start c = λ t trees spell. c.saturating_sub.ensures
    ∙ seam c.args.operations.now t trees _ (c.last_nodes.ensures t trees spell) spell
