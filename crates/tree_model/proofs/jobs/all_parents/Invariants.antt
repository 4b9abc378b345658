use Rattle.std.proofs.Common.{◌≡◌, map, take}
use Rattle.tree_model.specs.Jobs.{entry_home}
use Rattle.tree_model.proofs.jobs.all_parents.Given as goal

-- the homes of the directories so far
abbrev pub invariant-directories : goal.invariant-directories
invariant-directories l = l.all ≡ map (entry_home l.sorted) (take l.d-index l.directories)
