use Rattle.std.proofs.Common.{◌-◌, ◌≤◌, length}
use Rattle.pattern_match.specs.Skipping.{AreSkips, trees_before}
use Rattle.pattern_match.specs.Spelling.{StandForTrees}
use Rattle.pattern_match.proofs.spelling.spell_all.Given as goal

abbrev pub invariant-nodes : goal.invariant-nodes
invariant-nodes l = (l.at ≤ length l.nodes) × AreSkips l.nodes l.skips
    × StandForTrees l.operations.items (trees_before l.nodes l.at)

abbrev pub decreases-nodes : goal.decreases-nodes
decreases-nodes l = length l.nodes - l.at
