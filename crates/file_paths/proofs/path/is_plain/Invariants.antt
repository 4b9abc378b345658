use Rattle.std.proofs.Common.{◌≡◌, drop}
use Rattle.file_paths.specs.PathText.{is_plain_path}
use Rattle.file_paths.proofs.path.is_plain.Given as goal

-- what is left decides
abbrev pub invariant-loop-i : goal.invariant-loop-i
invariant-loop-i l = is_plain_path l.bytes ≡ is_plain_path (drop l.i l.bytes)
