use Rattle.std.proofs.Common.{◌≡◌, ◌≤◌, ℕ, List}
use Rattle.tree_model.specs.Firsts.{firsts_of}
use Rattle.tree_model.proofs.FirstLemmas.{AreNumbered}
use Rattle.tree_model.proofs.groups.number_by.Given as goal

abbrev pub invariant-entries : goal.invariant-entries
invariant-entries l = record {
  few : l.count ≤ l.first-index;
  numbered : (inodes : List (ℕ × ℕ)) → l.firsts ≡ firsts_of inodes
      → AreNumbered inodes l.first-index l.group_of.items l.count;
}
