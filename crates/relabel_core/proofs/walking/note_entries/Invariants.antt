use Rattle.std.proofs.Common.{◌≤◌, ◌+◌}
use Rattle.spec_match.specs.Scratches.{IsScratchOf}
use Rattle.relabel_core.specs.Walk.{walked_below}
use Rattle.relabel_core.specs.Walked.{AreNoted, walk_of}
use Rattle.relabel_core.proofs.walking.note_entries.Given as goal

abbrev pub invariant-entries : goal.invariant-entries
invariant-entries g l = record {
  own : IsScratchOf l.input.rules.now.rules l.scratch;
  noted : AreNoted (walk_of l.input) l.entry l.noted.decided.items l.noted.winners.items;
  count : l.steps ≤ l.initial.steps + walked_below (walk_of l.input) l.entry;
}
