-- What records that were numbered and sorted say of the records.
use Rattle.std.proofs.Common.{◌≡◌, ◌∙◌, subst, ℕ, suc, ◌<◌, ◌≤◌, false, List, [], ◌∷◌, length}
use Rattle.std.proofs.Common.{get_or, arith}
use Rattle.std.specs.Ordering.{is_lt}
use Rattle.std.specs.List.Sorted.{IsSorted, IsPermutation}
use Rattle.std.proofs.lemmas.List.Sorted.{sorted_far, ranks_by, Contains-permutation}
use Rattle.std.proofs.lemmas.List.Sorted.{IsPermutation-sym, length_permutation}
use Rattle.find_records.specs.Record.{Record}
use Rattle.tree_model.specs.Numbered.{Numbered, numbered_cmp, numbered_total, numbered_from}
use Rattle.tree_model.specs.Entries.{doubled}
use Rattle.tree_model.specs.Doubled.{doubled_in}
use Rattle.tree_model.proofs.Members.{Has, has_from_contains, contains_from_has}
use Rattle.tree_model.proofs.NumberedLemmas.{one_each, length_numbered}
use Rattle.tree_model.proofs.HeadLemmas.{Ordered, doubled_in_right, same_elements}
use Rattle.tree_model.proofs.Verdicts.{verdict_moves, verdict_one}
use Rattle.tree_model.proofs.DoubledLemmas.{doubled_right}

abbrev Far : List Numbered → Type 0
Far xs = (i j : ℕ) (d : Numbered) → i ≤ j → j < length xs
    → is_lt (numbered_cmp (get_or xs j d) (get_or xs i d)) ≡ false

far_tail : (x : Numbered) (xs : List Numbered) → Far (x ∷ xs) → Far xs
far_tail x xs f i j d l m = f (suc i) (suc j) d (omega arith) (omega arith)

far_head : (x : Numbered) (xs : List Numbered) → Far (x ∷ xs) → (y : Numbered) → Has xs y
    → is_lt (numbered_cmp y x) ≡ false
far_head x xs f y h =
    let c = contains_from_has xs y h in
    subst (λ z. is_lt (numbered_cmp z x) ≡ false) c.2
    (f 0 (suc c.0) y (omega arith) (omega (arith, c.1)))

ordered_from : (xs : List Numbered) → Far xs → Ordered xs
ordered_from [] f = tt
ordered_from (x ∷ xs) f = (far_head x xs f, ordered_from xs (far_tail x xs f))

pub ordered_sorted : (xs : List Numbered) → IsSorted numbered_cmp xs → Ordered xs
ordered_sorted xs s =
    ordered_from xs
    (λ i j d l m. sorted_far (λ x y. is_lt (numbered_cmp x y)) (ranks_by numbered_total (λ x. x)) xs
    s i j d l m)

pub has_moved : {X : Type 0} (xs ys : List X) → IsPermutation xs ys → (x : X) → Has xs x → Has ys x
has_moved xs ys p x h =
    has_from_contains ys x (Contains-permutation xs ys x p (contains_from_has xs x h))

-- what is found among the sorted records is what is to be found
pub doubled_is : (records : List Record) (S : List Numbered)
    → IsPermutation (numbered_from 1 records) S → IsSorted numbered_cmp S
    → doubled_in S ≡ doubled records
doubled_is records S p s =
    verdict_one (numbered_from 1 records) (one_each 1 records) (doubled_in S) (doubled records)
    (verdict_moves S (numbered_from 1 records) (doubled_in S)
    (same_elements S (numbered_from 1 records)
    (has_moved S (numbered_from 1 records) (IsPermutation-sym (numbered_from 1 records) S p))
    (has_moved (numbered_from 1 records) S p)) (doubled_in_right S (ordered_sorted S s)))
    (doubled_right records)

pub count_is : (records : List Record) (S : List Numbered) → IsPermutation (numbered_from 1 records)
    S → length S ≡ length records
count_is records S p = length_permutation (numbered_from 1 records) S p ∙ length_numbered 1 records
