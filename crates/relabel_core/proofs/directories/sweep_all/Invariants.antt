use Rattle.spec_match.specs.Scratches.{IsScratchOf}
use Rattle.relabel_core.specs.Swept.{AreSweeping}
use Rattle.relabel_core.specs.Walked.{walk_of}
use Rattle.relabel_core.proofs.directories.sweep_all.Given as goal

-- what is found of the entries so far
abbrev pub invariant-entries : goal.invariant-entries
invariant-entries l = record {
  own : IsScratchOf l.input.rules.now.rules l.buffers.scratch;
  swept : AreSweeping (walk_of l.input) l.entry l.end l.swept.skips.items l.swept.made;
}
