use Rattle.std.proofs.Common.{◌≡◌, ℕ, ◌<◌, length}
use Rattle.tree_model.specs.Groups.{groups_in}
use Rattle.relabel_core.specs.Numbers.{found_in}
use Rattle.relabel_core.specs.Walk.{winner}
use Rattle.relabel_core.specs.Walked.{walk_of}
use Rattle.relabel_workers.proofs.put_back.put_winners.Given as goal

-- the winners before this group are put back
abbrev pub invariant-groups : goal.invariant-groups
invariant-groups l = record {
  room : length l.noted.winners.items ≡ groups_in l.input.tree.now;
  put : (k : ℕ) → k < l.g → found_in l.noted.winners.items k ≡ winner (walk_of l.input) k;
  decided : l.noted.decided.items ≡ l.fn.noted.decided.items;
}
