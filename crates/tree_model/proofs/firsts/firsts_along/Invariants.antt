use Rattle.std.proofs.Common.{◌≡◌, take}
use Rattle.tree_model.specs.Firsts.{firsts_of}
use Rattle.tree_model.proofs.firsts.firsts_along.Given as goal

abbrev pub invariant-entries : goal.invariant-entries
invariant-entries l = l.firsts.items ≡ take l.e (firsts_of l.entries.inodes.now)
