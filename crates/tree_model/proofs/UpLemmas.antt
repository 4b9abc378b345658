-- As many places as there are records, whose paths rise strictly, are those of the tree's entries.
use Rattle.std.proofs.Common.{◌≡◌, ◌∙◌, ap, sym, refl, subst, ℕ, ◌<◌, Bool, true, false, List, []}
use Rattle.std.proofs.Common.{◌∷◌, length, get_or, arith, inl, inr}
use Rattle.std.specs.Prelude.{nat_lt, nat_eq, None, Ok}
use Rattle.std.proofs.lemmas.Bool.{eqb-true, or_parts, and_parts, ltb-true}
use Rattle.std.specs.List.{list_any, IsDistinct, AllByRecursion}
use Rattle.std.specs.Ordering.{is_lt}
use Rattle.std.specs.declared.cmp.Ordering.{Ordering}
use Rattle.std.specs.declared.cmp.Ordering.TheVariants.{Less, Equal, Greater}
use Rattle.std.proofs.lemmas.List.Elements.{Contains-get_or}
use Rattle.std.proofs.lemmas.Map.Keys.{IsDistinct-cons}
use Rattle.std.proofs.lemmas.Map.Steps.{length-le_from_distinct_below}
use Rattle.std.proofs.lemmas.List.{get_or_default}
use Rattle.file_paths.specs.Path.{path_cmp}
use Rattle.find_records.specs.Record.{Record}
use Rattle.tree_model.specs.Entries.{contradicts, doubled, entries_of, tree_of, unless_doubled}
use Rattle.tree_model.specs.Entries.{same_path}
use Rattle.tree_model.specs.Numbered.{numbered_from}
use Rattle.find_records.specs.Places.{ArePlaces, no_record, records_at}
use Rattle.tree_model.proofs.Members.{Has, any_has, contains_from_has, from_map, has_from_contains}
use Rattle.tree_model.proofs.Members.{has_map}
use Rattle.tree_model.proofs.SameLemmas.{conflict_at, conflict_itself, path_exact}
use Rattle.tree_model.proofs.NumberedLemmas.{in_item, one_each}
use Rattle.tree_model.proofs.DoubledLemmas.{calm_from, doubled_right}
use Rattle.tree_model.proofs.Verdicts.{Peace, verdict_one}
use Rattle.tree_model.proofs.HeadLemmas.{path_total}
use Rattle.tree_model.proofs.EntryLemmas.{Rising, not_less_itself, rising_one, entries_rising}
use Rattle.tree_model.proofs.EntryLemmas.{from_entries, to_entries}
use Rattle.tree_model.specs.Extents.{entry_at}
use Rattle.tree_model.specs.Up.{is_next, steps_up, goes_up}

pub less_from : (o : Ordering) → is_lt o ≡ true → o ≡ Less
less_from Less h = refl
less_from Equal h = cc
less_from Greater h = cc

module _ (records : List Record) where
  up_rising : (last : ℕ) (ps : List ℕ) → steps_up records last ps ≡ true
      → Rising (entry_at records last ∷ records_at records ps)
  up_rising last [] h = (λ x k. absurd k, tt)
  up_rising last (p ∷ ps) h =
      let both = and_parts (is_next records last p) (steps_up records p ps) h in
      let next = and_parts (nat_lt p (length records))
      (is_lt (path_cmp (entry_at records last).path (entry_at records p).path)) both.0 in
      let less = less_from (path_cmp (entry_at records last).path (entry_at records p).path)
      next.1 in
      let rest = up_rising p ps both.1 in (
        λ x k. elim k [
          | inl q ↦ subst (λ z. path_cmp (entry_at records last).path z.path ≡ Less) q less
          | inr t ↦ path_total.trans (entry_at records last).path (entry_at records p).path x.path
              less (rest.0 x t)
        ],
        rest,
      )

  up_within : (last : ℕ) (ps : List ℕ) → steps_up records last ps ≡ true
      → ArePlaces (length records) ps
  up_within last [] h = tt
  up_within last (p ∷ ps) h =
      let both = and_parts (is_next records last p) (steps_up records p ps) h in
      let next = and_parts (nat_lt p (length records))
      (is_lt (path_cmp (entry_at records last).path (entry_at records p).path)) both.0 in
      (ltb-true p (length records) next.0, up_within p ps both.1)

  pub goes_within : (ps : List ℕ) → goes_up records ps ≡ true → ArePlaces (length records) ps
  goes_within [] h = tt
  goes_within (p ∷ ps) h =
      let both = and_parts (nat_lt p (length records)) (steps_up records p ps) h in
      (ltb-true p (length records) both.0, up_within p ps both.1)

  goes_rising : (ps : List ℕ) → goes_up records ps ≡ true → Rising (records_at records ps)
  goes_rising [] h = tt
  goes_rising (p ∷ ps) h =
      up_rising p ps (and_parts (nat_lt p (length records)) (steps_up records p ps) h).1

  -- places of rising records differ
  differ_by : (v : Bool) (p q : ℕ) → nat_eq p q ≡ v → path_cmp (entry_at records p).path
      (entry_at records q).path ≡ Less → nat_eq p q ≡ false
  differ_by true p q e h =
      absurd (not_less_itself (entry_at records q).path
      (ap (λ k. path_cmp (entry_at records k).path (entry_at records q).path)
      (sym (eqb-true p q e)) ∙ h))
  differ_by false p q e h = e

  apart : (p : ℕ) (ps : List ℕ)
      → ((x : Record) → Has (records_at records ps) x → path_cmp (entry_at records p).path x.path
      ≡ Less) → AllByRecursion (λ y. nat_eq p y ≡ false) ps
  apart p [] f = tt
  apart p (q ∷ qs) f = (
    differ_by (nat_eq p q) p q refl (f (entry_at records q) (inl refl)),
    apart p qs
        (λ x h. f x (inr h)),
  )

  distinct_places : (ps : List ℕ) → Rising (records_at records ps) → IsDistinct nat_eq ps
  unfolding IsDistinct
  distinct_places [] r = tt
  distinct_places (p ∷ ps) r = IsDistinct-cons nat_eq p ps (apart p ps r.0) (distinct_places ps r.1)

  -- as many places as records leave none out
  none_of : (k : ℕ) (ps : List ℕ) → list_any (nat_eq k) ps ≡ false
      → AllByRecursion (λ y. nat_eq k y ≡ false) ps
  none_of k [] h = tt
  none_of k (p ∷ ps) h = let s = or_parts (nat_eq k p) (list_any (nat_eq k) ps) h in
      (s.0, none_of k ps s.1)

  place_within : (n : ℕ) (ps : List ℕ) (p : ℕ) → ArePlaces n ps → Has ps p → p < n
  place_within n [] p w h = absurd h
  place_within n (q ∷ qs) p w h =
      elim h [ inl e ↦ subst (λ z. z < n) e w.0 | inr t ↦ place_within n qs p w.1 t ]

  any_within : (n : ℕ) (ps : List ℕ) (q : ℕ) → ArePlaces n ps → list_any (nat_eq q) ps ≡ true
      → q < n
  any_within n ps q w h =
      let found = any_has (nat_eq q) ps h in
      subst (λ z. z < n) (sym (eqb-true q found.0 found.2)) (place_within n ps found.0 w found.1)

  found_by : (v : Bool) (k : ℕ) (ps : List ℕ) → list_any (nat_eq k) ps ≡ v → k < length records
      → ArePlaces (length records) ps → IsDistinct nat_eq ps → length ps ≡ length records
      → list_any (nat_eq k) ps ≡ true
  found_by true k ps e l w d n = e
  found_by false k ps e l w d n =
      let few = length-le_from_distinct_below (k ∷ ps) (length records)
      (IsDistinct-cons nat_eq k ps (none_of k ps e) d)
      (λ q h. any_within (length records) (k ∷ ps) q (l, w) h) in
      absurd (omega (arith, few, n))

  read_at : (k : ℕ) (z : Record) → k < length records → get_or records k z ≡ z
      → entry_at records k ≡ z
  read_at k z l e = get_or_default records k no_record z l ∙ e

  module _ (ps : List ℕ) (up : goes_up records ps ≡ true) (all : length ps ≡ length records) where
    entry_has : (z : Record) → Has records z → Has (records_at records ps) z
    entry_has z h =
        let c = contains_from_has records z h in
        let found = any_has (nat_eq c.0) ps
        (found_by (list_any (nat_eq c.0) ps) c.0 ps refl c.1 (goes_within ps up)
        (distinct_places ps (goes_rising ps up)) all) in
        let same : entry_at records found.0 ≡ z =
        ap (entry_at records) (sym (eqb-true c.0 found.0 found.2)) ∙ read_at c.0 z c.1 c.2 in
        subst (Has (records_at records ps)) same (has_map (entry_at records) ps found.0 found.1)

    has_entry : (z : Record) → Has (records_at records ps) z → Has records z
    has_entry z h =
        let found = from_map (entry_at records) ps z h in
        subst (Has records) found.2
        (has_from_contains records (entry_at records found.0)
        (Contains-get_or records found.0 no_record
        (place_within (length records) ps found.0 (goes_within ps up) found.1)))

    rising_same : (rs : List Record) (a b : Record) → Rising rs → Has rs a → Has rs b
        → a.path ≡ b.path → a ≡ b
    rising_same [] a b r ha hb e = absurd ha
    rising_same (x ∷ xs) a b r ha hb e = elim ha [
      | inl p ↦ elim hb [
        | inl q ↦ sym p
            ∙ q
        | inr t ↦ absurd
            (not_less_itself b.path (ap (λ z. path_cmp z b.path) (sym (ap (λ z. z.path) p ∙ e))
            ∙ r.0 b t))
      ]
      | inr s ↦ elim hb [
        | inl q ↦ absurd
            (not_less_itself a.path (ap (λ z. path_cmp z a.path) (e ∙ sym (ap (λ z. z.path) q))
            ∙ r.0 a s))
        | inr t ↦ rising_same xs a b r.1 s t e
      ]
    ]

    calm_by : (v : Bool) (a b : Record) → same_path a.path b.path ≡ v → Has records a
        → Has records b → contradicts a b ≡ false
    calm_by true a b e ha hb =
        let same = rising_same (records_at records ps) a b (goes_rising ps up) (entry_has a ha)
        (entry_has b hb) (path_exact a.path b.path e) in
        conflict_at a b b b same refl ∙ conflict_itself b
    calm_by false a b e ha hb = rw e refl

    peace : Peace (numbered_from 1 records)
    peace = λ a b ha hb. calm_by (same_path a.item.path b.item.path) a.item b.item refl
        (in_item 1 records a ha) (in_item 1 records b hb)

    none_doubled : None ≡ doubled records
    none_doubled = verdict_one (numbered_from 1 records) (one_each 1 records) None (doubled records)
        peace (doubled_right records)

    pub up_entries : tree_of records ≡ Ok (records_at records ps)
    up_entries =
        let same : entries_of records ≡ records_at records ps =
        rising_one (entries_of records) (records_at records ps) (entries_rising records)
        (goes_rising ps up)
        (λ z h. entry_has z (from_entries records z h))
        (λ z h. to_entries records z (calm_from records (sym none_doubled)) (has_entry z h)) in
        (λ i. unless_doubled (sym none_doubled i) (same i))
