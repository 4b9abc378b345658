use Rattle.std.proofs.Common.{◌-◌, ◌≤◌, length}
use Rattle.pattern_match.specs.Building.{HoldsTrees}
use Rattle.pattern_match.specs.Skipping.{AreSkips, trees_before}
use Rattle.pattern_match.proofs.compile.compiled.Given as goal

abbrev pub invariant-nodes : goal.invariant-nodes
invariant-nodes l = (l.at ≤ length l.nodes) × AreSkips l.nodes l.skips.items
    × HoldsTrees l.stack.items (trees_before l.nodes l.at)

abbrev pub decreases-nodes : goal.decreases-nodes
decreases-nodes l = length l.nodes - l.at
