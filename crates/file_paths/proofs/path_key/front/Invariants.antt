use Rattle.std.proofs.Common.{◌≡◌, ◌<◌, ◌^◌}
use Rattle.file_paths.specs.PathFront.{front_length}
use Rattle.file_paths.proofs.path_key.front.Given as goal

abbrev pub invariant-loop-place : goal.invariant-loop-place
invariant-loop-place l = (l.word ≡ front_length l.text l.place) × (l.word < 512 ^ l.place)
