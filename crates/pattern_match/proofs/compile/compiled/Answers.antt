use Rattle.std.proofs.Common.{◌∙◌, sym, arith, ◌≤◌, length}
use Rattle.pattern_match.proofs.Stacks.{top_at_end, none_at_end}
use Rattle.pattern_match.proofs.compile.compiled.Goals as goal

pub returns-in-Some : goal.returns-in-Some
returns-in-Some c =
    let l : length c.args.nodes.now ≤ c.nodes.at = omega arith in
    top_at_end c.args.nodes.now c.nodes.at c.nodes.stack.items c.pop.new.self.items
    c.in-Some.fragment l c.in-Some.ensures.items c.nodes.invariant.2

pub returns : goal.returns
returns c =
    let l : length c.args.nodes.now ≤ c.nodes.at = omega arith in
    none_at_end c.args.nodes.now c.nodes.at c.nodes.stack.items c.bare.result l
    (sym c.nodes.stack.ok.0 ∙ c.in-None.ensures.cases.0) c.nodes.invariant.2 c.bare.ensures
