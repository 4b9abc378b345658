use Rattle.std.proofs.Common.{◌≡◌, ◌<◌, drop, length}
use Rattle.tree_model.specs.Up.{steps_up}
use Rattle.tree_model.proofs.building.steps_up.Given as goal

abbrev pub invariant-places : goal.invariant-places
invariant-places l = record {
  same : steps_up l.records l.last (drop l.place-index l.rest) ≡ steps_up l.records l.fn.first
      l.rest;
  known : l.last < length l.records;
}
