use Rattle.std.proofs.Common.{◌≡◌, drop}
use Rattle.std.specs.List.{find}
use Rattle.spec_match.specs.Scratches.{IsScratchOf}
use Rattle.relabel_core.specs.Walk.{is_wanted}
use Rattle.relabel_core.specs.Walked.{walk_of}
use Rattle.label_audit.proofs.winners.search_names.Given as goal

-- the first of the names left that is wanted is the first of all
abbrev pub invariant-names : goal.invariant-names
invariant-names l = record {
  own : IsScratchOf l.input.rules.now.rules l.scratch;
  first : find (is_wanted (walk_of l.input)) (drop l.name-index l.names)
      ≡ find (is_wanted (walk_of l.input)) l.names;
}
