use Rattle.std.proofs.Common.{arith}
use Rattle.pattern_match.proofs.WordBits.{any_found}
use Rattle.pattern_match.proofs.bits.have_any.Goals as goal

pub returns-then-words-i-ne0-clause-from : goal.returns-then-words-i-ne0-clause-from
returns-then-words-i-ne0-clause-from c =
    λ _. any_found c.args.words.now c.loop-i.i c.if-words-i-ne0.true
    (omega (arith, c.type_inv.words c.loop-i.i))
