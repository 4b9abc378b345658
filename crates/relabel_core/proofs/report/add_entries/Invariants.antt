use Rattle.std.proofs.Common.{◌≡◌, ◌++◌}
use Rattle.relabel_core.specs.Answer.{walk_in}
use Rattle.relabel_core.specs.Report.{text_below}
use Rattle.relabel_core.specs.Walk.{line}
use Rattle.relabel_core.proofs.report.add_entries.Given as goal

-- the lines of the entries so far
abbrev pub invariant-entries : goal.invariant-entries
invariant-entries l = l.to ≡ l.initial.to ++ text_below (line (walk_in l.walked)) l.e
