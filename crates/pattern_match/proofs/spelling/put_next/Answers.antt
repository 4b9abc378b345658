use Rattle.std.proofs.Common.{◌<◌, subst, sym}
use Rattle.pattern_match.specs.Skipping.{IsSkip}
use Rattle.pattern_match.proofs.Alike.{spelled_skip, spelled_node}
use Rattle.pattern_match.proofs.spelling.put_next.Goals as goal

pub returns-then-at-end : goal.returns-then-at-end
returns-then-at-end c =
    let s : IsSkip c.args.nodes.now c.args.at c.skip_at-end.result =
    subst (λ e. IsSkip c.args.nodes.now c.args.at e) (sym c.skip_at-end.ensures)
    (c.requires.skips c.args.at
    (subst (λ e. c.args.at < e) c.skip_at-end.ensures c.if-at-end.true)) in
    spelled_skip c.args.nodes.now c.args.operations.now.items c.put_none.new.operations.items
    c.args.at c.skip_at-end.result c.if-at-end.true s c.in_ok-put_none.ensures c.requires.stand

pub returns : goal.returns
returns c = spelled_node c.args.nodes.now c.args.operations.now.items c.put.new.operations.items
    c.args.at _ c.requires.within (c.in_ok-put.ensures c.if-not-branch.false) c.requires.stand
