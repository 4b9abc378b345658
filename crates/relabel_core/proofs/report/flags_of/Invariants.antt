use Rattle.relabel_core.specs.Answer.{walk_in}
use Rattle.relabel_core.specs.Report.{AreRaised}
use Rattle.relabel_core.proofs.report.flags_of.Given as goal

-- the flags of the entries so far
abbrev pub invariant-entries : goal.invariant-entries
invariant-entries l = AreRaised (walk_in l.walked) l.e l.flags.items
