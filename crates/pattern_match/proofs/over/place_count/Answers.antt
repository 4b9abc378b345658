use Rattle.pattern_match.proofs.WholePasses.{counted}
use Rattle.pattern_match.proofs.over.place_count.Goals as goal

pub returns : goal.returns
returns c = counted c.args.operations.now c.requires c.of.result c.places.result
    c.of.ensures c.places.ensures
