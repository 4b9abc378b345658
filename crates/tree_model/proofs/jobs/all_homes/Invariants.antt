use Rattle.std.proofs.Common.{◌≡◌, map}
use Rattle.label_base.specs.Bounded.{all_numbers}
use Rattle.tree_model.specs.Jobs.{entry_home}
use Rattle.tree_model.proofs.jobs.all_homes.Given as goal

abbrev pub invariant-entries : goal.invariant-entries
invariant-entries l = l.homes ≡ map (entry_home l.sorted) (all_numbers l.e)
