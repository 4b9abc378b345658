use Rattle.std.proofs.Common.{◌≡◌, ◌++◌}
use Rattle.relabel_core.specs.Report.{text_below, unflagged_line}
use Rattle.relabel_core.proofs.report.add_unflagged.Given as goal

-- the lines of the specifications so far
abbrev pub invariant-specs : goal.invariant-specs
invariant-specs l = l.to ≡ l.initial.to ++ text_below (unflagged_line l.rules l.flags) l.i
