use Rattle.std.proofs.Common.{◌≡◌, ◌≤◌}
use Rattle.relabel_core.specs.Answer.{walk_in}
use Rattle.sample_tree.specs.Walks.{lines_below}
use Rattle.sample_tree.proofs.walks.lines_of.Given as goal

-- the lines of the entries so far
abbrev pub invariant-entries : goal.invariant-entries
invariant-entries l = record {
  lines : l.lines ≡ lines_below l.kind (walk_in l.walked) l.e;
  few : l.lines ≤ l.e;
}
