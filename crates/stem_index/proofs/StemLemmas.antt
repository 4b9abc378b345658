-- Candidates by the greatest of those that are left.
use Rattle.std.proofs.Common.{◌≡◌, ◌∙◌, ap, ap₂, sym, refl, subst, ℕ, zero, suc, ◌<◌, ◌≤◌, ◌^◌, ◌-◌}
use Rattle.std.proofs.Common.{Bool, true, false, cond, ◌==◌, List, [], ◌∷◌, ◌++◌, length, get_or}
use Rattle.std.proofs.Common.{arith, length-append, ◌⊎◌, inl, inr}
use Rattle.std.specs.Prelude.{Option, Some, None, IfSome, ◌&&◌, ◌||◌, not}
use Rattle.std.proofs.lemmas.Bool.{cases_lt, eqb-true, true≢false, or_parts}
use Rattle.std.proofs.lemmas.List.{get_or_append_left}
use Rattle.std.proofs.Math.Seq.{get_or-append_seam}
use Rattle.std.proofs.lemmas.Slice.Eq.{bytes_eq-Decides}
use Rattle.std.specs.declared.vec.Vec.{Vec}
use Rattle.indexmap.specs.IndexMap.{insert_entry}
use Rattle.label_base.specs.Bounded.{greater, greatest_below, last_or_found}
use Rattle.label_base.specs.NumberUnder.{number_under}
use Rattle.label_base.specs.Text.{same_bytes}
use Rattle.label_base.proofs.BoundedLemmas.{below_or_last, cond_last, greater_below, greatest_above}
use Rattle.label_base.proofs.BoundedLemmas.{greatest_agree, greatest_bound, greatest_none}
use Rattle.label_base.proofs.BoundedLemmas.{greatest_passes, greatest_shrinks}
use Rattle.label_base.proofs.UnderLemmas.{under_more}
use Rattle.stem_index.specs.Kept.{AreStemHeads, AreStemsKept, last_stem_with}
use Rattle.stem_index.specs.Stems.{candidates_below, stem_fits, is_none, is_stem, stem_at}

-- ---- candidates

abbrev from_found : List (List ℕ) → List ℕ → Option ℕ → List ℕ
from_found stems name None = []
from_found stems name (Some k) = k ∷ candidates_below stems k name

found_case : (stems : List (List ℕ)) (name : List ℕ) (n : ℕ) (o : Option ℕ) (b : Bool)
    → candidates_below stems n name ≡ from_found stems name o
    → cond b (n ∷ candidates_below stems n name) (candidates_below stems n name) ≡ from_found stems
    name (last_or_found o n b)
found_case stems name n o true h = refl
found_case stems name n o false h = h

by_greatest : (stems : List (List ℕ)) (name : List ℕ) (n : ℕ) → candidates_below stems n name
    ≡ from_found stems name (greatest_below n (λ i. stem_fits name (stem_at stems i)))
by_greatest stems name zero = refl
by_greatest stems name (suc n) =
    found_case stems name n (greatest_below n (λ i. stem_fits name (stem_at stems i)))
    (stem_fits name (stem_at stems n)) (by_greatest stems name n)

module _ (stems : List (List ℕ)) (name : List ℕ) (bound : ℕ) (free own : Option ℕ)
    (heads : AreStemHeads stems name bound free own) where
  greatest_is : greater free own ≡ greatest_below bound (λ i. stem_fits name (stem_at stems i))
  greatest_is = ap₂ greater heads.free_is heads.own_is
      ∙ greater_below bound (λ i. is_none (stem_at stems i)) (λ i. is_stem name (stem_at stems i))

  pub none_left : greater free own ≡ None → candidates_below stems bound name ≡ []
  none_left h = by_greatest stems name bound ∙ ap (from_found stems name) (sym greatest_is ∙ h)

  pub one_left : (k : ℕ) → greater free own ≡ Some k → candidates_below stems bound name
      ≡ k ∷ candidates_below stems k name
  one_left k h = by_greatest stems name bound ∙ ap (from_found stems name) (sym greatest_is ∙ h)

  pub within : (k : ℕ) → greater free own ≡ Some k → k < bound
  within k h = subst (λ o. IfSome o (λ k. k < bound)) (sym greatest_is ∙ h)
      (greatest_bound bound (λ i. stem_fits name (stem_at stems i)))

  module _ (k : ℕ) (found : greater free own ≡ Some k) where
    fits_it : stem_fits name (stem_at stems k) ≡ true
    fits_it = subst (λ o. IfSome o (λ k. stem_fits name (stem_at stems k) ≡ true))
        (sym greatest_is ∙ found) (greatest_passes bound (λ i. stem_fits name (stem_at stems i)))

    none_above : (j : ℕ) → k < j → j < bound → stem_fits name (stem_at stems j) ≡ false
    none_above =
        subst (λ o. IfSome o (λ k. (j : ℕ) → k < j → j < bound → stem_fits name (stem_at stems j)
        ≡ false)) (sym greatest_is ∙ found)
        (greatest_above bound (λ i. stem_fits name (stem_at stems i)))

    from_k : (p : ℕ → Bool) → p k ≡ false → ((j : ℕ) → k < j → j < bound → p j ≡ false) → (j : ℕ)
        → k ≤ j → j < bound → p j ≡ false
    from_k p here above j a b = elim (cases_lt k j) [
      | inl lt ↦ above j lt b
      | inr ge ↦ (let same : k ≡ j = omega (arith, a, ge) in subst (λ i. p i ≡ false) same here)
    ]

    none_then_own : (s : List ℕ) → is_none s ≡ true → is_stem name s ≡ false
    none_then_own s h = ap (λ b. not b && same_bytes name s) h

    empty_is : (s : List ℕ) → is_none s ≡ true → s ≡ []
    empty_is s h = sym ((bytes_eq-Decides [] s).0 h)

    own_is : (s : List ℕ) → is_none s ≡ false → stem_fits name s ≡ true → name ≡ s
    own_is s h f = (bytes_eq-Decides name s).0 (sym (ap (λ b. b || (not b && same_bytes name s)) h)
        ∙ f)

    same_own : (s t : List ℕ) → is_none s ≡ false → name ≡ s → same_bytes s t ≡ is_stem name t
    same_own s t h e = own_by (is_none t) refl
      where
        own_by : (b : Bool) → is_none t ≡ b
            → same_bytes s t ≡ (not (is_none t) && same_bytes name t)
        own_by false n = ap (λ x. same_bytes x t) (sym e)
            ∙ sym (ap (λ b. not b && same_bytes name t) n)
        own_by true n = differs (same_bytes s t) refl ∙ sym (ap (λ b. not b && same_bytes name t) n)
          where
            differs : (b : Bool) → same_bytes s t ≡ b → same_bytes s t ≡ false
            differs false d = d
            differs true d =
                absurd (true≢false (sym (ap (same_bytes []) ((bytes_eq-Decides s t).0 d) ∙ n) ∙ h))

    pub below_none : (before : Option ℕ) → is_none (stem_at stems k) ≡ true
        → before ≡ last_stem_with stems k (stem_at stems k) → AreStemHeads stems name k before own
    below_none before h e = record {
      within = omega (arith, heads.within, within k found);
      free_is = e ∙ ap (last_stem_with stems k) (empty_is (stem_at stems k) h);
      own_is = heads.own_is ∙ greatest_shrinks bound k (λ i. is_stem name (stem_at stems i))
          (omega (arith, within k found))
          (from_k (λ i. is_stem name (stem_at stems i)) (none_then_own (stem_at stems k) h)
          (λ j a b. (or_parts (is_none (stem_at stems j)) (is_stem name (stem_at stems j))
          (none_above j a b)).1));
    }

    pub below_own : (before : Option ℕ) → is_none (stem_at stems k) ≡ false
        → before ≡ last_stem_with stems k (stem_at stems k) → AreStemHeads stems name k free before
    below_own before h e = record {
      within = omega (arith, heads.within, within k found);
      free_is = heads.free_is ∙ greatest_shrinks bound k (λ i. is_none (stem_at stems i))
          (omega (arith, within k found))
          (from_k (λ i. is_none (stem_at stems i)) h
          (λ j a b. (or_parts (is_none (stem_at stems j)) (is_stem name (stem_at stems j))
          (none_above j a b)).0));
      own_is = e ∙ greatest_agree k (λ i. same_bytes (stem_at stems k) (stem_at stems i))
          (λ i. is_stem name (stem_at stems i))
          (λ j l. same_own (stem_at stems k) (stem_at stems j) h
          (own_is (stem_at stems k) h fits_it));
    }

-- ---- a text more

module _ (stems : List (List ℕ)) (stem : List ℕ) where
  abbrev more : List (List ℕ)
  more = stems ++ stem ∷ []

  at_before : (i : ℕ) → i < length stems → stem_at more i ≡ stem_at stems i
  at_before i l = get_or_append_left stems (stem ∷ []) [] i l

  at_end : stem_at more (length stems) ≡ stem
  at_end = get_or-append_seam stems stem [] []

  last_before : (i : ℕ) (s : List ℕ) → i ≤ length stems → last_stem_with more i s ≡ last_stem_with
      stems i s
  last_before i s l = greatest_agree i (λ k. same_bytes s (stem_at more k))
      (λ k. same_bytes s (stem_at stems k))
      (λ k m. ap (same_bytes s) (at_before k (omega (arith, l, m))))

  links_by : (before : List (Option ℕ)) (earlier : Option ℕ) (i : ℕ) → length before ≡ length stems
      → ((i : ℕ) → i < length stems → get_or before i None ≡ last_stem_with stems i
      (stem_at stems i))
      → earlier ≡ last_stem_with stems (length stems) stem → (i < length stems) ⊎ (length stems ≡ i)
      → get_or (before ++ earlier ∷ []) i None ≡ last_stem_with more i (stem_at more i)
  links_by before earlier i n links e (inl lt) =
      get_or_append_left before (earlier ∷ []) None i (omega (arith, n, lt)) ∙ links i lt
      ∙ ap (last_stem_with stems i) (sym (at_before i lt))
      ∙ sym (last_before i (stem_at more i) (omega (arith, lt)))
  links_by before earlier i n links e (inr same) =
      (let own : length before ≡ i = omega (arith, n, same) in
      subst (λ k. get_or (before ++ earlier ∷ []) k None ≡ earlier) own
      (get_or-append_seam before earlier [] None))
      ∙ e ∙ sym (last_before (length stems) stem (omega arith))
      ∙ ap (last_stem_with more (length stems)) (sym at_end)
      ∙ ap (λ k. last_stem_with more k (stem_at more k)) same

  pub kept_more : {A : Type 0} (key : Vec ℕ A) (entries new : List (Vec ℕ A × ℕ))
      (before : List (Option ℕ)) (earlier : Option ℕ) → key.items ≡ stem
      → new ≡ insert_entry (λ a b. same_bytes a.items b.items) entries key (length stems)
      → earlier ≡ number_under stem entries → length stems < 2 ^ 32 - 1
      → AreStemsKept stems entries before → AreStemsKept more new (before ++ earlier ∷ [])
  kept_more key entries new before earlier k e r few kept =
      let count : length more ≡ suc (length stems) =
      omega (arith, length-append stems (stem ∷ [])) in
      record {
        last = λ s.
            ap (number_under s) e
            ∙ under_more key (length stems)
            (λ es. insert_entry (λ a b. same_bytes a.items b.items) es key (length stems)) refl
            (λ first rest. refl) entries s
            ∙ ap₂ (λ t o. cond (same_bytes s t) (Some (length stems)) o) k
            (kept.last s ∙ sym (last_before (length stems) s (omega arith)))
            ∙ cond_last (length stems) (last_stem_with more (length stems) s) (same_bytes s stem)
            ∙ ap (λ t. last_or_found (last_stem_with more (length stems) s) (length stems)
            (same_bytes s t)) (sym at_end)
            ∙ ap (λ n. last_stem_with more n s) (sym count);
        sized = omega (arith, length-append before (earlier ∷ []), kept.sized, count);
        links = λ i l. links_by before earlier i kept.sized kept.links (r ∙ kept.last stem)
            (below_or_last (length stems) i (omega (arith, l, count)));
        few = omega (arith, count, few);
      }

-- ---- the heads of all texts

no_stem : (s : List ℕ) → is_stem [] s ≡ false
no_stem [] = refl
no_stem (b ∷ bs) = refl

stem_named : (name s : List ℕ) → is_none name ≡ false → same_bytes name s ≡ is_stem name s
stem_named name [] h = stem_empty name h
  where
    stem_empty : (name : List ℕ) → is_none name ≡ false → same_bytes name [] ≡ is_stem name []
    stem_empty [] h = cc
    stem_empty (b ∷ bs) h = refl
stem_named name (b ∷ bs) h = refl

pub heads_root : (stems : List (List ℕ)) (name : List ℕ) (free : Option ℕ) → is_none name ≡ true
    → free ≡ last_stem_with stems (length stems) [] → AreStemHeads stems name (length stems) free
    None
heads_root stems name free h f =
    let empty : [] ≡ name = (bytes_eq-Decides [] name).0 h in
    record {
      within = omega arith;
      free_is = f;
      own_is = sym (greatest_none (length stems) (λ i. is_stem name (stem_at stems i))
          (λ k l. subst (λ n. is_stem n (stem_at stems k) ≡ false) empty
          (no_stem (stem_at stems k))));
    }

pub heads_named : (stems : List (List ℕ)) (name : List ℕ) (free own : Option ℕ)
    → is_none name ≡ false → free ≡ last_stem_with stems (length stems) []
    → own ≡ last_stem_with stems (length stems) name → AreStemHeads stems name (length stems) free
    own
heads_named stems name free own h f o = record {
  within = omega arith;
  free_is = f;
  own_is = o ∙ greatest_agree (length stems) (λ i. same_bytes name (stem_at stems i))
      (λ i. is_stem name (stem_at stems i)) (λ k l. stem_named name (stem_at stems k) h);
}

pub empty_none : (name : List ℕ) (b : Bool) → (length name == 0) ≡ b → is_none name ≡ b
empty_none [] b h = h
empty_none (x ∷ xs) true h = absurd (omega (arith, eqb-true (length (x ∷ xs)) 0 h))
empty_none (x ∷ xs) false h = refl

pub kept_at : {A : Type 0} (stems : List (List ℕ)) (stem : List ℕ) (key : Vec ℕ A)
    (entries new : List (Vec ℕ A × ℕ)) (before : List (Option ℕ)) (earlier : Option ℕ) (n : ℕ)
    (longer : List (List ℕ)) (linked : List (Option ℕ)) → key.items ≡ stem → n ≡ length stems
    → new ≡ insert_entry (λ a b. same_bytes a.items b.items) entries key n
    → earlier ≡ number_under stem entries → longer ≡ stems ++ stem ∷ []
    → linked ≡ before ++ earlier ∷ [] → length stems < 2 ^ 32 - 1
    → AreStemsKept stems entries before → AreStemsKept longer new linked
kept_at stems stem key entries new before earlier n longer linked k m e r s t few kept =
    subst (λ ss. AreStemsKept ss new linked) (sym s)
    (subst (AreStemsKept (stems ++ stem ∷ []) new) (sym t)
    (kept_more stems stem key entries new before earlier k
    (e ∙ ap (insert_entry (λ a b. same_bytes a.items b.items) entries key) m) r few kept))
