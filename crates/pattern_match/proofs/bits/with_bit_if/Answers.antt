use Rattle.pattern_match.proofs.WordBits.{word_bit}
use Rattle.pattern_match.proofs.bits.with_bit_if.Goals as goal

pub returns-then-is_wanted : goal.returns-then-is_wanted
returns-then-is_wanted c =
    λ j l. rw c.if-is_wanted.true (word_bit c.args.word c.args.k j c.requires l)
