use Rattle.std.proofs.Common.{◌≡◌, take}
use Rattle.tree_model.specs.Numbered.{numbered_from}
use Rattle.tree_model.proofs.building.number_all.Given as goal

abbrev pub invariant-records : goal.invariant-records
invariant-records l = l.all.items ≡ numbered_from 1 (take l.place l.records)
