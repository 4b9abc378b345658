use Rattle.std.proofs.Common.{ℕ, ◌<◌, ◌^◌, List, length, take}
use Rattle.context_syntax.specs.declared.label.Label.{Label}
use Rattle.find_records.specs.Labelled.{ArePaired}
use Rattle.find_records.specs.Places.{ArePlaces}
use Rattle.find_records.specs.Rows.{AreWithin}
use Rattle.find_records.proofs.labelled.profile_rows.Given as goal

-- the new rows stand for the records of the rows so far
abbrev pub invariant-rows : goal.invariant-rows
invariant-rows l = record {
  few : length l.profiled.profiles.items < 2 ^ 32;
  paired : (texts : List ℕ) → (labels : List Label) → ArePlaces (length labels) l.numbers
      → AreWithin texts l.profiles l.rows
      → ArePaired texts l.profiles (take l.i l.rows)
      (take l.i l.numbers) labels l.profiled.profiles.items
      l.profiled.rows.items;
}
