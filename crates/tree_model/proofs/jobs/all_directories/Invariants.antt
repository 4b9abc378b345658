use Rattle.std.proofs.Common.{◌≡◌, filter}
use Rattle.label_base.specs.Bounded.{all_numbers}
use Rattle.tree_model.specs.Extents.{is_directory}
use Rattle.tree_model.proofs.jobs.all_directories.Given as goal

-- the directories among the entries so far
abbrev pub invariant-entries : goal.invariant-entries
invariant-entries l = l.directories.items ≡ filter (is_directory l.sorted) (all_numbers l.e)
