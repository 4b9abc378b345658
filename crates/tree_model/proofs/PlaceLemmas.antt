-- The places of records that were numbered and sorted.
use Rattle.std.proofs.Common.{◌≡◌, ◌∙◌, ap, sym, refl, ℕ, suc, ◌+◌, ◌-◌, ◌<◌, ◌≤◌, List, [], ◌∷◌}
use Rattle.std.proofs.Common.{◌++◌, length, map, take, get_or, arith, inl, inr}
use Rattle.std.specs.Prelude.{Option, Some, None, Ok}
use Rattle.std.proofs.lemmas.List.{take_more, length-take-le}
use Rattle.tree_model.specs.Entries.{unless_doubled}
use Rattle.std.specs.List.{dedup}
use Rattle.std.specs.List.Sorted.{IsPermutation}
use Rattle.std.proofs.lemmas.List.Kept.{Contains-from_dedup}
use Rattle.std.proofs.lemmas.List.Sorted.{IsPermutation-sym}
use Rattle.find_records.specs.Record.{Record}
use Rattle.tree_model.specs.Numbered.{Numbered, numbered_from, numbered_record, place_of}
use Rattle.tree_model.specs.Doubled.{same_place}
use Rattle.find_records.specs.Places.{ArePlaces, no_record, records_at}
use Rattle.tree_model.proofs.Members.{Has, has_from_contains, contains_from_has}
use Rattle.tree_model.proofs.NumberedLemmas.{in_low, in_high, numbered_more}
use Rattle.tree_model.proofs.SortedLemmas.{has_moved}

next_place : (n m : ℕ) → n + 1 ≤ m → m - n ≡ suc (m - (n + 1))
next_place n m h = omega (arith, h)

-- a record stands where its number says
at_number : (n : ℕ) (rs : List Record) (a : Numbered) → Has (numbered_from n rs) a
    → get_or rs (a.number - n) no_record ≡ a.item
at_number n [] a h = absurd h
at_number n (r ∷ rs) a h = elim h [
  | inl q ↦ (let e : a.number - n ≡ 0 = (let m : n ≡ a.number = ap (λ z. z.number) q in
      omega (arith, m)) in ap (λ k. get_or (r ∷ rs) k no_record) e ∙ ap (λ z. z.item) q)
  | inr t ↦ (let l = in_low (n + 1) rs a t in
      ap (λ k. get_or (r ∷ rs) k no_record) (next_place n a.number l) ∙ at_number (n + 1) rs a t)
]

abbrev pub Among : List Record → List Numbered → Type 0
Among records ks = (a : Numbered) → Has ks a → Has (numbered_from 1 records) a

items_at : (records : List Record) (ks : List Numbered) → Among records ks
    → records_at records (map place_of ks) ≡ map numbered_record ks
items_at records [] f = refl
items_at records (k ∷ ks) f =
    let first : get_or records (place_of k) no_record ≡ k.item =
    at_number 1 records k (f k (inl refl)) in
    let rest = items_at records ks (λ a h. f a (inr h)) in
    λ i. first i ∷ rest i

all_within : (records : List Record) (ks : List Numbered) → Among records ks
    → ArePlaces (length records) (map place_of ks)
all_within records [] f = tt
all_within records (k ∷ ks) f =
    let h = f k (inl refl) in
    let low = in_low 1 records k h in
    let high = in_high 1 records k h in
    (omega (arith, low, high), all_within records ks (λ a t. f a (inr t)))

kept_among : (records : List Record) (S : List Numbered) → IsPermutation (numbered_from 1 records) S
    → Among records (dedup same_place S)
kept_among records S p a h =
    let c = has_from_contains S a
    (Contains-from_dedup same_place S a (contains_from_has (dedup same_place S) a h)) in
    has_moved S (numbered_from 1 records) (IsPermutation-sym (numbered_from 1 records) S p) a c

pub places_are : (records : List Record) (S : List Numbered)
    → IsPermutation (numbered_from 1 records) S
    → records_at records (map place_of (dedup same_place S)) ≡ map numbered_record
    (dedup same_place S)
places_are records S p = items_at records (dedup same_place S) (kept_among records S p)

pub places_within : (records : List Record) (S : List Numbered)
    → IsPermutation (numbered_from 1 records) S
    → ArePlaces (length records) (map place_of (dedup same_place S))
places_within records S p = all_within records (dedup same_place S) (kept_among records S p)

-- one record more
pub numbered_next : (records : List Record) (k number : ℕ) (r : Record) (all new : List Numbered)
    → k < length records → r ≡ get_or records k r → number ≡ k
    → all ≡ numbered_from 1 (take k records)
    → new ≡ all ++ record { number = number + 1; item = r } ∷ []
    → new ≡ numbered_from 1 (take (k + 1) records)
numbered_next records k number r all new l h m e f =
    let long : length (take k records) ≡ k = length-take-le k records (omega (arith, l)) in
    numbered_more 1 (number + 1) (take k records) r all new f e (omega (arith, m, long))
    ∙ ap (numbered_from 1)
    (sym (take_more records k r l ∙ ap (λ z. take k records ++ z ∷ []) (sym h)))

-- a tree that is given has the entries, and no record is doubled
pub calm_tree : (d : Option (ℕ × ℕ)) (entries kept : List Record) → unless_doubled d entries
    ≡ Ok kept → d ≡ None
calm_tree None entries kept h = refl
calm_tree (Some d) entries kept h = cc

pub kept_tree : (d : Option (ℕ × ℕ)) (entries kept : List Record) → unless_doubled d entries
    ≡ Ok kept → kept ≡ entries
kept_tree None entries kept h = cc
kept_tree (Some d) entries kept h = cc
