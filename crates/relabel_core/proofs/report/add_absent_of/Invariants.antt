use Rattle.std.proofs.Common.{◌≡◌, ◌++◌, drop}
use Rattle.relabel_core.specs.Report.{absent_text}
use Rattle.relabel_core.proofs.report.add_absent_of.Given as goal

-- the lines so far, and those of the operands that are left
abbrev pub invariant-operands : goal.invariant-operands
invariant-operands l = l.to ++ absent_text l.operands (drop l.i-index l.indices) ≡ l.initial.to
    ++ absent_text l.operands l.indices
