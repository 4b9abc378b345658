use Rattle.std.proofs.Common.{arith}
use Rattle.pattern_match.proofs.WordBits.{common_found, none_common}
use Rattle.pattern_match.proofs.bits.have_common.Goals as goal

pub returns-then-words-i-ne0-clause-from : goal.returns-then-words-i-ne0-clause-from
returns-then-words-i-ne0-clause-from c = λ _. common_found c.args.words.now c.args.others.now
    c.loop-i.i c.if-words-i-ne0.true (omega (arith, c.type_inv.words c.loop-i.i))

pub returns-clause-onto : goal.returns-clause-onto
returns-clause-onto c =
    λ k b o. absurd
    (none_common c.args.words.now c.args.others.now c.requires
    (λ i l. c.loop-i.invariant i (omega arith)) k b o)
