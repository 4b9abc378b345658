use Rattle.std.proofs.Common.{◌∙◌, ap, sym, drop}
use Rattle.std.proofs.lemmas.List.{take_rest}
use Rattle.label_base.specs.Escape.{led_by}
use Rattle.setfattr_dump.specs.Values.{Nothing, text_read}
use Rattle.setfattr_dump.proofs.ValueLemmas.{escaped_itself, escaped_nothing, escaped_octal}
use Rattle.setfattr_dump.proofs.ValueLemmas.{escaped_short}
use Rattle.setfattr_dump.proofs.value.cut_escape.Goals as goal

pub returns-in_default-clause-none : goal.returns-in_default-clause-none
returns-in_default-clause-none c = escaped_nothing c.args.text.now c.in_default.len_below

pub returns-then-is_escapable-clause-some : goal.returns-then-is_escapable-clause-some
returns-then-is_escapable-clause-some c =
    rw take_rest
    (escaped_itself c.args.text.now c.in-len1-up.len_at_least (sym c.is_escapable.ensures
    ∙ c.if-is_escapable.true))

pub returns-in_default-rest-clause-none : goal.returns-in_default-rest-clause-none
returns-in_default-rest-clause-none c =
    escaped_short c.args.text.now c.in-len1-up.len_at_least
    (rw take_rest at c.in_default-rest.len_below) (sym c.is_escapable.ensures
    ∙ c.if-is_escapable.false)

pub returns-in-Some-clause-some : goal.returns-in-Some-clause-some
returns-in-Some-clause-some c =
    let rest = drop 2 (drop 1 c.args.text.now) in
    let byte = rw take_rest at c.octal_byte.ensures in
    simp take_rest
    (escaped_octal c.args.text.now c.in-len1-up.len_at_least
    (rw take_rest at c.in-len2-up.len_at_least) (sym c.is_escapable.ensures
    ∙ c.if-is_escapable.false)
    ∙ ap (λ b. led_by b (text_read Nothing rest)) (sym byte ∙ c.in-Some.is))

pub returns-in-None-clause-none : goal.returns-in-None-clause-none
returns-in-None-clause-none c =
    let rest = drop 2 (drop 1 c.args.text.now) in
    let byte = rw take_rest at c.octal_byte.ensures in
    escaped_octal c.args.text.now c.in-len1-up.len_at_least
    (rw take_rest at c.in-len2-up.len_at_least) (sym c.is_escapable.ensures
    ∙ c.if-is_escapable.false)
    ∙ ap (λ b. led_by b (text_read Nothing rest)) (sym byte ∙ c.in-None.is)
