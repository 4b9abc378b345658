use Rattle.std.proofs.Common.{◌≡◌, ◌≤◌}
use Rattle.relabel_core.specs.Answer.{walk_in}
use Rattle.relabel_core.specs.Walk.{wanted_below}
use Rattle.relabel_core.proofs.walked.Walked.count_wanted.Given as goal

-- the entries so far that are decided to a context
abbrev pub invariant-entries : goal.invariant-entries
invariant-entries l = record {
  counted : l.found ≡ wanted_below (walk_in l.self) l.e;
  few : l.found ≤ l.e;
}
