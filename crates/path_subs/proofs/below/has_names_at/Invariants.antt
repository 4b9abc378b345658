use Rattle.std.proofs.Common.{◌≡◌, ◌≤◌, length, drop}
use Rattle.std.specs.List.{starts_with}
use Rattle.label_base.specs.Text.{same_bytes}
use Rattle.file_paths.specs.PathRef.{path_of}
use Rattle.path_subs.proofs.below.has_names_at.Given as goal

-- the names so far are the same
abbrev pub invariant-names : goal.invariant-names
invariant-names l = record {
  same : starts_with same_bytes (drop l.at (path_of l.path)) (drop l.from (path_of l.other))
      ≡ starts_with same_bytes (drop l.place (path_of l.path)) (drop l.i (path_of l.other));
  within : l.place ≤ length (path_of l.path);
}
