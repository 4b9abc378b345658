use Rattle.pattern_match.proofs.OpenParts.{cut_trees}
use Rattle.pattern_match.proofs.part.split_last_part.Goals as goal

pub returns : goal.returns
returns c = λ t trees spell. cut_trees c.args.operations.now _ _ t trees _
    (c.last_part_start.ensures.start t trees spell) c.split_at.ensures.front c.split_at.ensures.back
    spell
