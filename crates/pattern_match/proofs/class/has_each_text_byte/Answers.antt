use Rattle.std.proofs.Common.{arith}
use Rattle.pattern_match.proofs.FullSets.{full_shows}
use Rattle.pattern_match.proofs.class.has_each_text_byte.Goals as goal

pub returns : goal.returns
returns c = full_shows c.args.set.now.words (omega arith)
