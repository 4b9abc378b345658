use Rattle.std.proofs.Common.{◌<◌, subst, sym}
use Rattle.pattern_match.specs.Skipping.{IsSkip}
use Rattle.pattern_match.proofs.Zeros.{put_skip, put_node}
use Rattle.pattern_match.proofs.compile.put_next.Goals as goal

pub returns-then-at-end : goal.returns-then-at-end
returns-then-at-end c =
    let s : IsSkip c.args.nodes.now c.args.at c.skip_at-end.result =
    subst (λ e. IsSkip c.args.nodes.now c.args.at e) (sym c.skip_at-end.ensures)
    (c.requires.skips c.args.at
    (subst (λ e. c.args.at < e) c.skip_at-end.ensures c.if-at-end.true)) in
    put_skip c.args.nodes.now c.args.stack.now.items c.put_none.new.stack.items c.args.at
    c.skip_at-end.result c.if-at-end.true s c.in_ok-put_none.ensures c.requires.holds

pub returns : goal.returns
returns c = put_node c.args.nodes.now c.args.stack.now.items c.put.new.stack.items c.args.at _
    c.requires.within c.in_ok-put.ensures c.requires.holds
