use Rattle.std.proofs.Common.{◌≤◌, ◌-◌}
use Rattle.relabel_core.specs.Walked.{walk_of}
use Rattle.label_audit.specs.Ahead.{IsAhead}
use Rattle.label_audit.specs.Looking.{AreReady}
use Rattle.label_audit.proofs.ahead.look_on.Given as goal

abbrev pub invariant-entries : goal.invariant-entries
invariant-entries l = record {
  ready : AreReady (walk_of l.input) l.lookups;
  ahead : IsAhead (walk_of l.input) l.d l.ahead;
  from : l.d ≤ l.ahead.clear.entry;
}

abbrev pub decreases-entries : goal.decreases-entries
decreases-entries l = l.stop - l.ahead.clear.entry
