-- One pass over records in order: the first record of each path, and the doubled ones.
use Rattle.std.proofs.Common.{◌≡◌, ◌∙◌, ap, sym, subst, ℕ, ◌+◌, ◌≤◌, ◌<◌, Bool, true, false, cond}
use Rattle.std.proofs.Common.{List, [], ◌∷◌, ◌++◌, length, drop, map, get_or, arith, append_assoc}
use Rattle.std.specs.Prelude.{Option}
use Rattle.std.specs.List.{dedup, dedup_from}
use Rattle.std.specs.Ordering.{is_eq, ordering_reverse}
use Rattle.std.specs.declared.cmp.Ordering.{Ordering}
use Rattle.std.specs.declared.cmp.Ordering.TheVariants.{Less, Equal, Greater}
use Rattle.std.proofs.lemmas.List.{drop_more, length-map}
use Rattle.file_paths.specs.Path.{path_cmp}
use Rattle.tree_model.specs.Numbered.{Numbered, place_of}
use Rattle.tree_model.specs.Doubled.{same_place, doubled_with, doubled_behind, doubled_in}
use Rattle.tree_model.proofs.SameLemmas.{same_path_is}
use Rattle.tree_model.proofs.HeadLemmas.{path_total}

tie_back : (o p : Ordering) → o ≡ ordering_reverse p → is_eq o ≡ is_eq p
tie_back o Less e = ap is_eq e
tie_back o Equal e = ap is_eq e
tie_back o Greater e = ap is_eq e

place_back : (a b : Numbered) → same_place a b ≡ same_place b a
place_back a b =
    same_path_is a.item.path b.item.path
    ∙ tie_back (path_cmp a.item.path b.item.path) (path_cmp b.item.path a.item.path)
    (path_total.antisymm a.item.path b.item.path)
    ∙ sym (same_path_is b.item.path a.item.path)

-- what was found so far, and what the run that has begun and the rest give
pub record Passing (places : List ℕ) (head : Numbered) (best : Option (ℕ × ℕ))
    (rest sorted : List Numbered) : Type 0 where
  pub places_are : places ++ map place_of (dedup_from same_place head rest) ≡ map place_of
      (dedup same_place sorted)
  pub doubled_is : doubled_behind head best rest ≡ doubled_in sorted

next_rest : (rest : List Numbered) (i : ℕ) (x : Numbered) → i < length rest → x ≡ get_or rest i x
    → drop i rest ≡ x ∷ drop (i + 1) rest
next_rest rest i x l e = drop_more rest i x l ∙ ap (λ z. z ∷ drop (i + 1) rest) (sym e)

-- a record of the head's path
pub again : (places : List ℕ) (head : Numbered) (best : Option (ℕ × ℕ))
    (rest sorted : List Numbered) (i : ℕ) (x : Numbered) (new_places : List ℕ) (new_head : Numbered)
    (new_best : Option (ℕ × ℕ))
    → Passing places head best (drop i rest) sorted → i < length rest → x ≡ get_or rest i x
    → same_place head x ≡ true
    → new_places ≡ places → new_head ≡ head → new_best ≡ doubled_with head x best
    → Passing new_places new_head new_best (drop (i + 1) rest) sorted
again places head best rest sorted i x new_places new_head new_best p l e s np nh nb =
    let behind = drop (i + 1) rest in
    let whole = subst (λ r. Passing places head best r sorted) (next_rest rest i x l e) p in
    rw (np, nh, nb) record {
      places_are =
          ap (λ v. places ++ map place_of
          (cond v (dedup_from same_place head behind) (head ∷ dedup_from same_place x behind)))
          (sym s ∙ place_back head x) ∙ whole.places_are;
      doubled_is =
          ap (λ v. cond v (doubled_behind head (doubled_with head x best) behind)
          (doubled_behind x best behind))
          (sym s) ∙ whole.doubled_is;
    }

-- a record of the next path
pub other : (places : List ℕ) (head : Numbered) (best : Option (ℕ × ℕ))
    (rest sorted : List Numbered) (i : ℕ) (x : Numbered) (new_places : List ℕ) (new_head : Numbered)
    (new_best : Option (ℕ × ℕ))
    → Passing places head best (drop i rest) sorted → i < length rest → x ≡ get_or rest i x
    → same_place head x ≡ false
    → new_places ≡ places ++ place_of head ∷ [] → new_head ≡ x → new_best ≡ best
    → Passing new_places new_head new_best (drop (i + 1) rest) sorted
other places head best rest sorted i x new_places new_head new_best p l e s np nh nb =
    let behind = drop (i + 1) rest in
    let whole = subst (λ r. Passing places head best r sorted) (next_rest rest i x l e) p in
    rw (np, nh, nb) record {
      places_are =
          append_assoc places (place_of head ∷ []) (map place_of (dedup_from same_place x behind))
          ∙ ap (λ v. places ++ map place_of
          (cond v (dedup_from same_place head behind) (head ∷ dedup_from same_place x behind)))
          (sym s ∙ place_back head x)
          ∙ whole.places_are;
      doubled_is =
          ap (λ v. cond v (doubled_behind head (doubled_with head x best) behind)
          (doubled_behind x best behind))
          (sym s) ∙ whole.doubled_is;
    }

shorter : (v : Bool) (a b : List Numbered) (k : Numbered) (n : ℕ) → length a ≤ n + 1
    → length b ≤ n + 1 → length (cond v a (k ∷ b)) ≤ n + 2
shorter true a b k n h g = omega (arith, h)
shorter false a b k n h g = omega (arith, g)

from_one : (k : Numbered) (xs : List Numbered) → length (dedup_from same_place k xs) ≤ length xs + 1
from_one k [] = omega arith
from_one k (x ∷ xs) =
    let s : length (dedup_from same_place k (x ∷ xs)) ≤ length xs + 2 =
    shorter (same_place x k) (dedup_from same_place k xs) (dedup_from same_place x xs) k
    (length xs) (from_one k xs) (from_one x xs) in
    omega (arith, s)

pub few_firsts : (sorted : List Numbered) (n : ℕ) → length sorted ≡ n
    → length (map place_of (dedup same_place sorted)) ≤ n
few_firsts [] n e = omega arith
few_firsts (x ∷ xs) n e =
    let f = from_one x xs in
    let m = length-map (dedup_from same_place x xs) place_of in
    omega (arith, f, m, e)
