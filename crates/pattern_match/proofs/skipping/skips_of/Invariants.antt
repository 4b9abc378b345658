use Rattle.pattern_match.specs.Skipping.{IsSkipNoted}
use Rattle.pattern_match.proofs.skipping.skips_of.Given as goal

abbrev pub invariant-nodes : goal.invariant-nodes
invariant-nodes l = IsSkipNoted l.nodes l.starts.items l.skips.items l.at
