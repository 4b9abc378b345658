use Rattle.std.proofs.Common.{◌≡◌, true, IfSome, drop}
use Rattle.std.specs.Prelude.{filter}
use Rattle.std.specs.List.{last_or}
use Rattle.std.specs.Option.{option_copied}
use Rattle.file_paths.specs.PathRef.{path_of}
use Rattle.path_subs.specs.Subs.{covers}
use Rattle.path_reasons.specs.Routes.{covering_line, is_covered_by}
use Rattle.path_reasons.proofs.covering.last_cover.Given as goal

-- the last of those so far, if there is one, before those that are left
abbrev pub invariant-lines : goal.invariant-lines
invariant-lines l = record {
  covered : IfSome (option_copied l.found) (λ x. covers (path_of l.path) x.sub ≡ true);
  last : last_or (option_copied l.found)
      (filter (is_covered_by (path_of l.path)) (drop l.line-index l.lines))
      ≡ covering_line l.lines (path_of l.path);
}
