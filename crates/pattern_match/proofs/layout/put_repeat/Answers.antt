use Rattle.std.proofs.Common.{◌-◌, map, arith}
use Rattle.pattern_match.specs.Automaton.{automaton}
use Rattle.pattern_match.proofs.Laying.{top}
use Rattle.pattern_match.proofs.LaidNodes.{laid_repeat}
use Rattle.pattern_match.proofs.layout.put_repeat.Goals as goal

pub returns : goal.returns
returns c = λ done trees h.
    let t = (top c.args.rows.now.items c.args.classes.now.items c.args.segments.now.items
    c.pop.new.self.items c.in-Some.piece (map automaton trees) c.in-Some.ensures.items h).count
    in
    laid_repeat c.args.rows.now.items c.repeated.new.rows.items c.args.classes.now.items
    c.repeated.new.classes.items c.args.segments.now.items c.pop.new.self.items
    c.push.new.self.items c.in-Some.piece c.in_ok-whole.whole
    (c.len.result - c.in-Some.piece.start) c.args.least c.args.most trees
    c.in-Some.ensures.items c.in_ok-push.ensures.items (omega arith)
    (c.can_repeat.ensures.some c.if-not-can_repeat.false)
    (c.can_repeat.ensures.count c.if-not-can_repeat.false)
    (c.can_repeat.ensures.few c.if-not-can_repeat.false)
    c.in_ok-whole.ensures.places c.in_ok-whole.ensures.stands h
