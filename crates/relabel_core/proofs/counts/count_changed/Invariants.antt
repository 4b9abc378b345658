use Rattle.std.proofs.Common.{◌≡◌, ◌≤◌}
use Rattle.relabel_core.specs.Counts.{AreWalkCounts, changed_below}
use Rattle.relabel_core.proofs.counts.count_changed.Given as goal

-- the counts so far
abbrev pub invariant-entries : goal.invariant-entries
invariant-entries g l = record {
  counted : AreWalkCounts (g.C.LabelChanges.walk l.changes) l.e l.counts.items;
  last : l.changed ≡ changed_below (g.C.LabelChanges.walk l.changes) l.e;
  few : l.changed ≤ l.e;
}
