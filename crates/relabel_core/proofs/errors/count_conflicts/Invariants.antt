use Rattle.std.proofs.Common.{◌≡◌, ◌≤◌}
use Rattle.relabel_core.specs.Answer.{walk_in}
use Rattle.relabel_core.specs.Walk.{conflicts_below}
use Rattle.relabel_core.proofs.errors.count_conflicts.Given as goal

-- the conflicts so far
abbrev pub invariant-entries : goal.invariant-entries
invariant-entries l = record {
  counted : l.conflicts ≡ conflicts_below (walk_in l.walked) l.e;
  few : l.conflicts ≤ l.e;
}
