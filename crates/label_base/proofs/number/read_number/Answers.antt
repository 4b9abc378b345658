use Rattle.std.proofs.Common.{◌∙◌, sym}
use Rattle.label_base.proofs.NumberLemmas.{ended}
use Rattle.label_base.proofs.number.read_number.Goals as goal

pub returns-in_err-value : goal.returns-in_err-value
returns-in_err-value c =
    c.from_residual.ensures
    ∙ sym (sym c.loop-b.invariant ∙ ended c.loop-b.value c.loop-b.b-index c.args.bytes.now
    c.loop-b-test.true (sym c.longer.ensures ∙ c.in_err-value.was))
