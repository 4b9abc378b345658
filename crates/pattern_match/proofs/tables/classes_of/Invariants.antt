use Rattle.std.proofs.Common.{◌≡◌, map, take}
use Rattle.pattern_match.specs.Class.{class_bytes}
use Rattle.pattern_match.specs.Tables.{bytes_in}
use Rattle.pattern_match.proofs.tables.classes_of.Given as goal

abbrev pub invariant-positions : goal.invariant-positions
invariant-positions l = map class_bytes l.classes.items ≡ map bytes_in
    (take l.position-index l.positions)
