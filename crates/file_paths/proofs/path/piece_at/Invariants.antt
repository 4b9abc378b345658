use Rattle.std.proofs.Common.{◌≡◌, drop}
use Rattle.std.specs.List.{slice_split}
use Rattle.file_paths.specs.Path.{is_slash}
use Rattle.file_paths.proofs.path.piece_at.Given as goal

-- what is left has the pieces behind those that were passed
abbrev pub invariant-loop-passed : goal.invariant-loop-passed
invariant-loop-passed l = drop l.passed (slice_split is_slash l.text) ≡ slice_split is_slash l.rest
