use Rattle.std.proofs.Common.{◌∙◌, sym}
use Rattle.pattern_match.proofs.Alike.{nothing_added}
use Rattle.pattern_match.proofs.spelling.left_behind.Goals as goal

pub returns : goal.returns
returns c = nothing_added c.args.node.now c.args.operations.now _ _ c.last_part_start.result
    c.in_ok-first.ensures c.last_part_start.ensures.start
    (sym c.adds_nothing.ensures ∙ c.if-not-adds_nothing.false)
