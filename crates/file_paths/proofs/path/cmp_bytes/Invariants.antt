use Rattle.std.proofs.Common.{◌≡◌, drop}
use Rattle.file_paths.specs.PathText.{text_cmp}
use Rattle.file_paths.proofs.path.cmp_bytes.Given as goal

-- what is left decides
abbrev pub invariant-loop-i : goal.invariant-loop-i
invariant-loop-i l = text_cmp l.text l.other ≡ text_cmp (drop l.i l.text) (drop l.i l.other)
