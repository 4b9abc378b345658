use Rattle.std.proofs.Common.{◌≡◌, take}
use Rattle.tree_model.proofs.jobs.row_of.Given as goal

abbrev pub invariant-words : goal.invariant-words
invariant-words l = l.row ≡ take l.word-index l.words
