-- The entries of records: in the order of their paths, and the records that they are.
use Rattle.std.proofs.Common.{◌≡◌, ◌∙◌, ap, sym, refl, subst, zero, suc, ◌+◌, List, [], ◌∷◌, map}
use Rattle.std.proofs.Common.{get_or, arith, ◌⊎◌, inl, inr}
use Rattle.std.specs.Prelude.{None}
use Rattle.std.specs.Cmp.Lexicographic.{lists_equiv, nat_list_eq_equiv}
use Rattle.std.specs.List.{AllPairs, AllByRecursion, Contains, dedup}
use Rattle.std.specs.List.Sorted.{IsSorted, IsPermutation, IsStrictlySortedBy}
use Rattle.std.specs.Ordering.{is_eq, nat_cmp, on, ordering_reverse}
use Rattle.std.specs.declared.cmp.Ordering.{Ordering}
use Rattle.std.specs.declared.cmp.Ordering.TheVariants.{Less, Equal, Greater}
use Rattle.std.proofs.lemmas.Cmp.{tied_itself, on_total, on_equiv}
use Rattle.std.proofs.lemmas.List.Elements.{Contains-get_or}
use Rattle.std.proofs.lemmas.List.Kept.{Any-dedup, Contains-from_dedup, IsStrictlySortedBy-dedup}
use Rattle.std.proofs.lemmas.List.Sorted.{IsPermutation-sym}
use Rattle.std.proofs.lemmas.Map.Keys.{sorted_head, sorted_tail}
use Rattle.file_paths.specs.Path.{Path, path_cmp}
use Rattle.find_records.specs.Record.{Record}
use Rattle.tree_model.specs.Numbered.{Numbered, numbered_cmp, numbered_from, numbered_record}
use Rattle.tree_model.specs.Entries.{entry_placed, entered, entries_of, doubled}
use Rattle.tree_model.specs.Doubled.{same_place}
use Rattle.tree_model.proofs.Members.{Has, has_map, from_map, has_from_contains, contains_from_has}
use Rattle.tree_model.proofs.SameLemmas.{path_exact, peace_same, same_path_is}
use Rattle.tree_model.proofs.NumberedLemmas.{in_item, item_in}
use Rattle.tree_model.proofs.HeadLemmas.{path_total, then_first}
use Rattle.tree_model.proofs.DoubledLemmas.{Calm, calm_from}
use Rattle.tree_model.proofs.SortedLemmas.{has_moved}

-- each path is below those behind
abbrev pub Rising : List Record → Type 0
Rising [] = Unit {0}
Rising (e ∷ es) = ((x : Record) → Has es x → path_cmp e.path x.path ≡ Less) × Rising es

pub not_less_itself : (p : Path) → path_cmp p p ≡ Less → ⊥
not_less_itself p h = let t = tied_itself path_total p in cc

not_both : (p q : Path) → path_cmp p q ≡ Less → path_cmp q p ≡ Less → ⊥
not_both p q h k = not_less_itself p (path_total.trans p q p h k)

from_greater : (p q : Path) → path_cmp p q ≡ Greater → path_cmp q p ≡ Less
from_greater p q h = path_total.antisymm q p ∙ ap ordering_reverse h

-- rising lists with the same elements are one list
heads : (x y : Record) (xs ys : List Record) → Rising (x ∷ xs) → Rising (y ∷ ys) → Has (y ∷ ys) x
    → Has (x ∷ xs) y → x ≡ y
heads x y xs ys a b h k =
    elim h [
      | inl q ↦ sym q
      | inr t ↦ elim k
          [ inl q ↦ q | inr s ↦ absurd (not_both x.path y.path (a.0 y s) (b.0 x t)) ]
    ]

rest_of : (x y : Record) (xs ys : List Record) → x ≡ y → Rising (x ∷ xs)
    → ((z : Record) → Has (x ∷ xs) z → Has (y ∷ ys) z) → (z : Record) → Has xs z → Has ys z
rest_of x y xs ys e a f z h =
    elim (f z (inr h)) [
      | inl q ↦ absurd
          (not_less_itself x.path
          (subst (λ w. path_cmp x.path w.path ≡ Less) (sym (e ∙ q)) (a.0 z h)))
      | inr t ↦ t
    ]

pub rising_one : (xs ys : List Record) → Rising xs → Rising ys
    → ((z : Record) → Has xs z → Has ys z) → ((z : Record) → Has ys z → Has xs z) → xs ≡ ys
rising_one [] [] a b f g = refl
rising_one [] (y ∷ ys) a b f g = absurd (g y (inl refl))
rising_one (x ∷ xs) [] a b f g = absurd (f x (inl refl))
rising_one (x ∷ xs) (y ∷ ys) a b f g =
    let e = heads x y xs ys a b (f x (inl refl)) (g y (inl refl)) in
    let t = rising_one xs ys a.1 b.1 (rest_of x y xs ys e a f) (rest_of y x ys xs (sym e) b g) in
    λ i. e i ∷ t i

placed_has : (o : Ordering) (r e : Record) (es behind : List Record) (z : Record)
    → (Has behind z → (r ≡ z) ⊎ Has es z) → Has (entry_placed o r e es behind) z
    → (r ≡ z) ⊎ Has (e ∷ es) z
placed_has Less r e es behind z f h = h
placed_has Equal r e es behind z f h = inr h
placed_has Greater r e es behind z f h =
    elim h [ inl q ↦ inr (inl q) | inr t ↦ elim (f t) [ inl q ↦ inl q | inr s ↦ inr (inr s) ] ]

pub has_entered : (r : Record) (es : List Record) (z : Record) → Has (entered r es) z
    → (r ≡ z) ⊎ Has es z
has_entered r [] z h = h
has_entered r (e ∷ es) z h = placed_has (path_cmp r.path e.path) r e es (entered r es) z
    (has_entered r es z) h

has_placed : (o : Ordering) (r e : Record) (es behind : List Record) (z : Record)
    → (o ≡ Equal → e ≡ r) → ((r ≡ z) ⊎ Has es z → Has behind z) → (r ≡ z) ⊎ Has (e ∷ es) z
    → Has (entry_placed o r e es behind) z
has_placed Less r e es behind z s f h = h
has_placed Equal r e es behind z s f h = elim h [ inl q ↦ inl (s refl ∙ q) | inr t ↦ t ]
has_placed Greater r e es behind z s f h =
    elim h [ inl q ↦ inr (f (inl q)) | inr t ↦ elim t [ inl q ↦ inl q | inr u ↦ inr (f (inr u)) ] ]

tied_path : (p q : Path) → path_cmp p q ≡ Equal → q ≡ p
tied_path p q h = sym (path_exact p q (same_path_is p q ∙ ap is_eq h))

pub entered_has : (r : Record) (es : List Record) (z : Record)
    → ((e : Record) → Has es e → e.path ≡ r.path → e ≡ r) → (r ≡ z) ⊎ Has es z
    → Has (entered r es) z
entered_has r [] z s h = h
entered_has r (e ∷ es) z s h =
    has_placed (path_cmp r.path e.path) r e es (entered r es) z
    (λ t. s e (inl refl) (tied_path r.path e.path t))
    (entered_has r es z (λ x hx. s x (inr hx))) h

by_order : (o : Ordering) (r e : Record) (es behind : List Record) → path_cmp r.path e.path ≡ o
    → Rising (e ∷ es) → ((x : Record) → Has behind x → (r ≡ x) ⊎ Has es x) → Rising behind
    → Rising (entry_placed o r e es behind)
by_order Less r e es behind o a f b = (
  λ x h. elim h [
    | inl q ↦ subst (λ z. path_cmp r.path z.path ≡ Less) q o
    | inr t ↦
        path_total.trans r.path e.path x.path o (a.0 x t)
  ],
  a,
)
by_order Equal r e es behind o a f b = a
by_order Greater r e es behind o a f b = (
  λ x h. elim (f x h) [
    | inl q ↦ subst (λ z. path_cmp e.path z.path ≡ Less) q (from_greater r.path e.path o)
    | inr t ↦
        a.0 x t
  ],
  b,
)

rising_entered : (r : Record) (es : List Record) → Rising es → Rising (entered r es)
rising_entered r [] a = (λ x h. absurd h, tt)
rising_entered r (e ∷ es) a = by_order (path_cmp r.path e.path) r e es (entered r es) refl a
    (has_entered r es) (rising_entered r es a.1)

pub entries_rising : (records : List Record) → Rising (entries_of records)
unfolding entries_of
entries_rising [] = tt
entries_rising (r ∷ rs) = rising_entered r (entries_of rs) (entries_rising rs)

pub from_entries : (records : List Record) (z : Record) → Has (entries_of records) z → Has records z
unfolding entries_of
from_entries [] z h = h
from_entries (r ∷ rs) z h =
    elim (has_entered r (entries_of rs) z h) [ inl q ↦ inl q | inr t ↦ inr (from_entries rs z t) ]

pub to_entries : (records : List Record) (z : Record) → Calm records → Has records z
    → Has (entries_of records) z
unfolding entries_of
to_entries [] z calm h = h
to_entries (r ∷ rs) z calm h =
    entered_has r (entries_of rs) z
    (λ e he p. peace_same e r p (calm e r (inr (from_entries rs e he)) (inl refl)))
    (elim h [
      | inl q ↦ inl q
      | inr t ↦ inr
          (to_entries rs z (λ a b ha hb. calm a b (inr ha) (inr hb)) t)
    ])

-- the first record of each path, of records in order

all_has : {X : Type 0} (P : X → Type 0) (xs : List X) (x : X) → AllByRecursion P xs → Has xs x → P x
all_has P [] x a h = absurd h
all_has P (y ∷ xs) x a h = elim h [ inl q ↦ subst P q a.0 | inr t ↦ all_has P xs x a.1 t ]

rising_kept : (ks : List Numbered) → IsStrictlySortedBy (on (λ n. n.item.path) path_cmp) ks
    → Rising (map numbered_record ks)
rising_kept [] s = tt
rising_kept (k ∷ ks) s = (
  λ x h. let p = from_map numbered_record ks x h in
      let l = all_has (λ y. path_cmp k.item.path y.item.path ≡ Less) ks p.0
      (sorted_head (on (λ n. n.item.path) path_cmp) k ks s) p.1 in
      subst (λ z. path_cmp k.item.path z.path ≡ Less) p.2 l,
  rising_kept ks (sorted_tail (on (λ n. n.item.path) path_cmp) k ks s),
)

by_path : (S : List Numbered) → IsSorted numbered_cmp S → IsSorted (on (λ n. n.item.path) path_cmp)
    S
by_path S s k d l m = then_first (path_cmp (get_or S (k + 1) d).item.path (get_or S k d).item.path)
    (nat_cmp (get_or S (k + 1) d).number (get_or S k d).number) (s k d l m)

pub kept_rising : (S : List Numbered) → IsSorted numbered_cmp S
    → Rising (map numbered_record (dedup same_place S))
kept_rising S s =
    rising_kept (dedup same_place S)
    (IsStrictlySortedBy-dedup (on_total (λ n. n.item.path) path_total)
    (λ x y. same_path_is x.item.path y.item.path) S (by_path S s))

module _ (records : List Record) (S : List Numbered) (p : IsPermutation (numbered_from 1 records) S)
  where
    kept_from : (z : Record) → Has (map numbered_record (dedup same_place S)) z → Has records z
    kept_from z h =
        let a = from_map numbered_record (dedup same_place S) z h in
        let c = has_from_contains S a.0
        (Contains-from_dedup same_place S a.0 (contains_from_has (dedup same_place S) a.0 a.1)) in
        let n = has_moved S (numbered_from 1 records)
        (IsPermutation-sym (numbered_from 1 records) S p) a.0 c in
        subst (Has records) a.2 (in_item 1 records a.0 n)

    kept_to : (z : Record) → Calm records → Has records z
        → Has (map numbered_record (dedup same_place S)) z
    kept_to z calm h =
        let a = item_in 1 records z h in
        let c = contains_from_has S a.0 (has_moved (numbered_from 1 records) S p a.0 a.1) in
        let d = Any-dedup (on_equiv (λ n. n.item.path) (lists_equiv nat_list_eq_equiv)) S a.0 c in
        let b = d.1 in
        let hb = has_from_contains (dedup same_place S) b (d.0, d.2, d.3) in
        let hm = has_map numbered_record (dedup same_place S) b hb in
        let e = peace_same a.0.item b.item (path_exact a.0.item.path b.item.path d.4)
        (calm a.0.item b.item (subst (Has records) (sym a.2) h) (kept_from b.item hm)) in
        subst (Has (map numbered_record (dedup same_place S))) (sym e ∙ a.2) hm

-- the first records of each path are the entries
pub entries_are : (records : List Record) (S : List Numbered)
    → IsPermutation (numbered_from 1 records) S → IsSorted numbered_cmp S → doubled records ≡ None
    → map numbered_record (dedup same_place S) ≡ entries_of records
entries_are records S p s n =
    let calm = calm_from records n in
    rising_one (map numbered_record (dedup same_place S)) (entries_of records) (kept_rising S s)
    (entries_rising records)
    (λ z h. to_entries records z calm (kept_from records S p z h))
    (λ z h. kept_to records S p z calm (from_entries records z h))

-- rising entries, by their places
pub rising_pairs : (xs : List Record) → Rising xs → AllPairs (λ a b. path_cmp a.path b.path ≡ Less)
    xs
rising_pairs [] a i j d l m = absurd (omega arith)
rising_pairs (x ∷ xs) a zero zero d l m = absurd (omega arith)
rising_pairs (x ∷ xs) a (suc i) zero d l m = absurd (omega arith)
rising_pairs (x ∷ xs) a zero (suc j) d l m =
    a.0 (get_or xs j d)
    (has_from_contains xs (get_or xs j d) (Contains-get_or xs j d (omega arith)))
rising_pairs (x ∷ xs) a (suc i) (suc j) d l m =
    rising_pairs xs a.1 i j d (omega arith) (omega arith)

pub entries_pairs : (records : List Record) → AllPairs (λ a b. path_cmp a.path b.path ≡ Less)
    (entries_of records)
entries_pairs records = rising_pairs (entries_of records) (entries_rising records)

-- the entries have just the records
pub entries_same : (records kept : List Record) → kept ≡ entries_of records → doubled records ≡ None
    → (r : Record) → (Contains kept r → Contains records r) × (Contains records r → Contains kept r)
entries_same records kept e n r = (
  λ c. contains_from_has records r
      (from_entries records r (subst (λ l. Has l r) e (has_from_contains kept r c))),
  λ c. contains_from_has kept r
      (subst (λ l. Has l r) (sym e)
      (to_entries records r (calm_from records n) (has_from_contains records r c))),
)
