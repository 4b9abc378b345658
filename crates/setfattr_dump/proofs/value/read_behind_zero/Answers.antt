use Rattle.std.proofs.Common.{◌∙◌, ap, sym}
use Rattle.std.proofs.lemmas.List.{take_rest}
use Rattle.label_base.specs.Answers.{fault_cause}
use Rattle.setfattr_dump.specs.Values.{value_or_bad}
use Rattle.setfattr_dump.proofs.ValueLemmas.{same_value, zero_digits, zero_nothing, zero_other}
use Rattle.setfattr_dump.proofs.value.read_behind_zero.Goals as goal

pub returns-in_default : goal.returns-in_default
returns-in_default c = ap value_or_bad (zero_nothing c.args.rest.now c.in_default.len_below)

pub returns-then-not-is_digits_mark : goal.returns-then-not-is_digits_mark
returns-then-not-is_digits_mark c =
    ap value_or_bad
    (zero_other c.args.rest.now c.in-len1-up.len_at_least (sym c.is_digits_mark.ensures
    ∙ c.if-not-is_digits_mark.true))

pub returns : goal.returns
returns c =
    same_value fault_cause c.read_digits.result _ _
    (zero_digits c.args.rest.now c.in-len1-up.len_at_least (sym c.is_digits_mark.ensures
    ∙ c.if-not-is_digits_mark.false)) (rw take_rest at c.read_digits.ensures)
