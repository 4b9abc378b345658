use Rattle.std.proofs.Common.{List, ℕ, subst}
use Rattle.std.specs.List.Sorted.{IsPermutation}
use Rattle.std.proofs.lemmas.List.Sorted.{IsNonDecreasingBy-from_sort}
use Rattle.spec_match.proofs.fronts.sorted_keys.Goals as goal

pub returns : goal.returns
returns c = record {
  same = subst (λ (w : List ℕ). IsPermutation w c.sort_unstable.new.self.items) c.in_ok-keys.ensures
      c.sort_unstable.ensures.permutation;
  rising = IsNonDecreasingBy-from_sort (λ x. x) _ c.sort_unstable.ensures.sorted;
}
