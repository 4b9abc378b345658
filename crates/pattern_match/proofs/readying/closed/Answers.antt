use Rattle.std.proofs.Common.{◌∙◌, sym, arith}
use Rattle.pattern_match.proofs.Closed.{bare_ready, closed_ready}
use Rattle.pattern_match.proofs.readying.closed.Goals as goal

pub returns-then-is_bare : goal.returns-then-is_bare
returns-then-is_bare c = λ tree w. bare_ready c.args.rows.items c.args.classes.items
    c.args.whole.now tree c.len-places.result c.bare.result (omega arith) c.bare.ensures.bare
    c.bare.ensures.width c.bare.ensures.operations (sym c.is_bare.ensures ∙ c.if-is_bare.true) w

pub returns : goal.returns
returns c = λ tree w. closed_ready c.args.rows.items c.push.new.self.items
    c.in_ok-one_word.field-0.items c.args.classes.items c.push-2.new.self.items c.args.whole.now
    tree c.len-places.result c.with_bit_if-last.result c.new.result.items c.new.ensures.items
    (omega arith) c.in_ok-push.ensures.items
    c.in_ok-push-2.ensures.items c.in_ok-one_word.ensures c.with_bit_if-last.ensures
    (sym c.is_bare.ensures ∙ c.if-is_bare.false) w
