use Rattle.std.proofs.Common.{◌+◌, ◌/◌, refl, arith}
use Rattle.pattern_match.proofs.WordBits.{row_bit, same_word}
use Rattle.pattern_match.proofs.bits.is_row.Goals as goal

pub returns-then-table-start : goal.returns-then-table-start
returns-then-table-start c = (
  λ e. cc,
  λ h. absurd (c.if-table-start.true
      (same_word c.args.words.now c.args.table.now c.args.start c.loop-i.i (omega arith)
      (omega (arith, c.type_inv.table (c.args.start + c.loop-i.i)))
      (omega (arith, c.type_inv.words c.loop-i.i)) h)),
)

pub returns : goal.returns
returns c = (
  λ _ k l. row_bit c.args.words.now c.args.table.now c.args.start k
      (c.loop-i.invariant (k / 64) (omega arith)),
  λ _. refl,
)
