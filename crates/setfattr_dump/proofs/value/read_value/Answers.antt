use Rattle.std.proofs.Common.{ap}
use Rattle.std.proofs.lemmas.List.{take_rest}
use Rattle.label_base.specs.Answers.{fault_cause}
use Rattle.setfattr_dump.specs.Values.{value_or_bad}
use Rattle.setfattr_dump.proofs.ValueLemmas.{same_value, value_nothing, value_other, value_text}
use Rattle.setfattr_dump.proofs.ValueLemmas.{value_zero}
use Rattle.setfattr_dump.proofs.value.read_value.Goals as goal

pub returns-in_default : goal.returns-in_default
returns-in_default c = ap value_or_bad (value_nothing c.args.given.now c.in_default.len_below)

pub returns-then-first-eq-QUOTE : goal.returns-then-first-eq-QUOTE
returns-then-first-eq-QUOTE c =
    same_value fault_cause c.read_text.result _ _
    (value_text c.args.given.now c.in-len1-up.len_at_least c.if-first-eq-QUOTE.true)
    (rw take_rest at c.read_text.ensures)

pub returns-then-first-ne-ZERO : goal.returns-then-first-ne-ZERO
returns-then-first-ne-ZERO c =
    ap value_or_bad
    (value_other c.args.given.now c.in-len1-up.len_at_least c.if-first-eq-QUOTE.false
    c.if-first-ne-ZERO.true)

pub returns : goal.returns
returns c =
    same_value fault_cause c.read_behind_zero.result _ _
    (value_zero c.args.given.now c.in-len1-up.len_at_least c.if-first-ne-ZERO.false)
    (rw take_rest at c.read_behind_zero.ensures)
