use Rattle.std.proofs.Common.{◌∙◌}
use Rattle.pattern_syntax.specs.ByteSet.{has_byte}
use Rattle.pattern_syntax.proofs.Sets.{only_none, only_one, only_more}
use Rattle.pattern_syntax.proofs.byte_set.ByteSet.only.Goals as goal

pub returns-in_err-b : goal.returns-in_err-b
returns-in_err-b c = c.from_residual.ensures ∙ only_none (has_byte c.args.self.now)
    c.in_err-b.ensures

pub returns-in-None : goal.returns-in-None
returns-in-None c = only_one (has_byte c.args.self.now) c.in_ok-b.b c.in_ok-b.ensures
    (rw c.from.ensures at c.in-None.ensures)

pub returns-in-Some : goal.returns-in-Some
returns-in-Some c = only_more (has_byte c.args.self.now) c.in_ok-b.b c.in-Some.field-0 _
    c.in_ok-b.ensures (rw c.from.ensures at c.in-Some.ensures)
