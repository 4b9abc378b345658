use Rattle.std.proofs.Common.{◌≡◌, ◌≤◌, ◌+◌, ◌++◌, drop}
use Rattle.report_text.specs.Texts.{report_of}
use Rattle.path_lookups.specs.Finders.{IsFinderOf}
use Rattle.path_lookups.specs.Verified.{count_unverified, verified_messages}
use Rattle.path_lookups.proofs.verified.add_all_verified.Given as goal

-- the lines so far, and those of the paths that are left
abbrev pub invariant-paths : goal.invariant-paths
invariant-paths g l = record {
  own : IsFinderOf l.by.rules.now l.finder;
  text : l.to ++ report_of
      (verified_messages l.by.rules.now l.by.tree.now l.by.kind (drop l.path-index l.paths))
      ≡ l.initial.to ++ report_of
      (verified_messages l.by.rules.now l.by.tree.now l.by.kind l.paths);
  count : l.unverified + count_unverified
      (verified_messages l.by.rules.now l.by.tree.now l.by.kind (drop l.path-index l.paths))
      ≡ count_unverified (verified_messages l.by.rules.now l.by.tree.now l.by.kind l.paths);
  few : l.unverified ≤ l.path-index;
}
