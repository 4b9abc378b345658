use Rattle.std.proofs.Common.{map}
use Rattle.pattern_match.specs.Automaton.{automaton}
use Rattle.pattern_match.specs.Layouts.{IsLaid}
use Rattle.pattern_match.specs.Skipping.{trees_before}
use Rattle.pattern_match.proofs.layout.lay.Given as goal

abbrev pub invariant-nodes : goal.invariant-nodes
invariant-nodes l = IsLaid l.rows.items l.classes.items l.segments.items
    (map automaton (trees_before l.nodes l.at))
