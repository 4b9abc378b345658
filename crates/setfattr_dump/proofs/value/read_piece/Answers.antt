use Rattle.std.proofs.Common.{◌∙◌, sym, drop}
use Rattle.std.proofs.lemmas.List.{take_rest}
use Rattle.setfattr_dump.proofs.ValueLemmas.{at_backslash, at_nothing, at_quote, closed_none}
use Rattle.setfattr_dump.proofs.ValueLemmas.{closed_some, closes, goes_on, unread}
use Rattle.setfattr_dump.proofs.value.read_piece.Goals as goal

pub returns-in_default-clause-err : goal.returns-in_default-clause-err
returns-in_default-clause-err c =
    let rest = c.cut_plain.result.1.now in
    unread c.args.text.now c.cut_plain.result.0.now rest c.cut_plain.ensures.read
    (at_nothing rest c.in_default.len_below)

pub returns-then-is_empty-clause-ok : goal.returns-then-is_empty-clause-ok
returns-then-is_empty-clause-ok c =
    let rest = c.cut_plain.result.1.now in
    let end = rw take_rest at (sym c.is_empty.ensures ∙ c.if-is_empty.true) in
    closes c.args.text.now c.cut_plain.result.0.now rest c.args.read.now c.push.new.self
    c.cut_plain.ensures.read
    (at_quote rest c.in-len1-up.len_at_least c.if-special-eq-QUOTE.true
    ∙ closed_some (drop 1 rest) end) c.in_ok-push.ensures.ok

pub returns-then-special-eq-QUOTE-clause-err : goal.returns-then-special-eq-QUOTE-clause-err
returns-then-special-eq-QUOTE-clause-err c =
    let rest = c.cut_plain.result.1.now in
    let more = rw take_rest at (sym c.is_empty.ensures ∙ c.if-is_empty.false) in
    unread c.args.text.now c.cut_plain.result.0.now rest c.cut_plain.ensures.read
    (at_quote rest c.in-len1-up.len_at_least c.if-special-eq-QUOTE.true
    ∙ closed_none (drop 1 rest) more)

pub returns-in_default-cut_escape-clause-err : goal.returns-in_default-cut_escape-clause-err
returns-in_default-cut_escape-clause-err c =
    let rest = c.cut_plain.result.1.now in
    let bad = rw take_rest at c.in_default-cut_escape.ensures.none in
    unread c.args.text.now c.cut_plain.result.0.now rest c.cut_plain.ensures.read
    (at_backslash rest c.in-len1-up.len_at_least
    (c.cut_plain.ensures.special c.in-len1-up.len_at_least) c.if-special-eq-QUOTE.false ∙ bad)

pub returns-clause-ok : goal.returns-clause-ok
returns-clause-ok c =
    let rest = c.cut_plain.result.1.now in
    let found = rw take_rest at c.in-Some.ensures.some in
    goes_on c.args.text.now c.cut_plain.result.0.now rest c.in-Some.rest.now c.args.read.now
    c.push.new.self c.push_byte.new.self c.in-Some.b c.cut_plain.ensures.read
    (at_backslash rest c.in-len1-up.len_at_least
    (c.cut_plain.ensures.special c.in-len1-up.len_at_least) c.if-special-eq-QUOTE.false ∙ found)
    c.in_ok-push.ensures.ok c.in_ok-push_byte.ensures.ok
