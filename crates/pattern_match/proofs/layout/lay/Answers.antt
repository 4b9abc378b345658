use Rattle.std.proofs.Common.{arith}
use Rattle.pattern_match.proofs.LaidNodes.{laid_node, laid_all}
use Rattle.pattern_match.proofs.layout.lay.Goals as goal

pub nodes-preserved : goal.nodes-preserved
nodes-preserved c = laid_node c.args.nodes.now c.nodes.at _ c.nodes.rows.items c.put.new.rows.items
    c.nodes.classes.items c.put.new.classes.items c.nodes.segments.items c.put.new.segments.items
    (omega arith) (c.in_ok-put.ensures c.if-not-branch.false) c.nodes.invariant

pub returns : goal.returns
returns c = λ done. laid_all c.args.nodes.now c.nodes.at c.nodes.rows.items c.nodes.classes.items
    c.nodes.segments.items (omega arith) c.nodes.invariant
