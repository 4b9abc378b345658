use Rattle.pattern_match.proofs.WordBits.{bit_set}
use Rattle.pattern_match.proofs.bits.set_bit.Goals as goal

pub returns : goal.returns
returns c = bit_set c.args.words.now c.args.start c.args.k c.requires
