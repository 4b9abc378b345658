use Rattle.std.proofs.Common.{◌≡◌, length}
use Rattle.file_paths.specs.PathText.{text_cmp}
use Rattle.file_paths.proofs.path.cmp_texts.Given as goal

-- what is left decides
abbrev pub invariant-chunks : goal.invariant-chunks
invariant-chunks l = text_cmp l.text l.other ≡ text_cmp l.left l.other_left

abbrev pub decreases-chunks : goal.decreases-chunks
decreases-chunks l = length l.left
