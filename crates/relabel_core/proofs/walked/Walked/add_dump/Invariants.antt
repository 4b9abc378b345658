use Rattle.std.proofs.Common.{◌≡◌, ◌++◌}
use Rattle.relabel_core.specs.Answer.{walk_in}
use Rattle.relabel_core.proofs.DumpLemmas.{sections_below}
use Rattle.relabel_core.proofs.walked.Walked.add_dump.Given as goal

-- the sections of the entries so far
abbrev pub invariant-entries : goal.invariant-entries
invariant-entries l = l.to ≡ l.initial.to ++ sections_below (walk_in l.self) l.e
