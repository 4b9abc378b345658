use Rattle.std.proofs.Common.{◌≡◌, ◌∙◌, sym, length, arith}
use Rattle.pattern_match.proofs.LaidNodes.{laid_class}
use Rattle.pattern_match.proofs.layout.put_class.Goals as goal

pub returns : goal.returns
returns c = λ done trees h. laid_class c.args.rows.now.items c.args.classes.now.items
    c.args.segments.now.items c.push-3.new.self.items c.args.class c.single.result trees
    c.push.new.self.items c.push-2.new.self.items c.len-start.result
    (let n : c.len-start.result ≡ length c.args.rows.now.items = omega arith in n)
    c.in_ok-push.ensures.items c.in_ok-push-2.ensures.items c.single.ensures
    c.in_ok-push-3.ensures.items (sym c.is_some.ensures ∙ c.if-not-is_some.false) (omega arith) h
