use Rattle.std.proofs.Common.{List, take}
use Rattle.find_records.specs.Profiles.{Profile}
use Rattle.find_records.specs.Rows.{AreLaid, AreWithin}
use Rattle.find_records.proofs.lay.lay.Given as goal

-- the new rows stand for the records at the places so far
abbrev pub invariant-each : goal.invariant-each
invariant-each l = (profiles : List Profile) → AreWithin l.texts profiles l.rows
    → AreLaid l.texts profiles l.rows (take l.i l.places) l.laid.texts.items l.laid.rows.items
