use Rattle.std.proofs.Common.{◌≡◌, ◌++◌, drop}
use Rattle.report_text.specs.Texts.{report_of}
use Rattle.path_lookups.specs.Finders.{IsFinderOf}
use Rattle.path_lookups.specs.Found.{found_messages}
use Rattle.path_lookups.proofs.found.add_all_found.Given as goal

-- the lines so far, and those of the paths that are left
abbrev pub invariant-paths : goal.invariant-paths
invariant-paths g l = record {
  own : IsFinderOf l.lookup.rules.now l.finder;
  text : l.to ++ report_of (found_messages l.lookup.rules.now l.lookup.kind l.lookup.bare
      (drop l.path-index l.paths))
      ≡ l.initial.to ++ report_of
      (found_messages l.lookup.rules.now l.lookup.kind l.lookup.bare l.paths);
}
