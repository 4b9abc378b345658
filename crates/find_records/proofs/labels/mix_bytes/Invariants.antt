use Rattle.std.proofs.Common.{length}
use Rattle.find_records.proofs.labels.mix_bytes.Given as goal

abbrev pub decreases-words : goal.decreases-words
decreases-words l = length l.left
