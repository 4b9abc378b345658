-- Which extents have all entries of the groups in them.
use Rattle.std.proofs.Common.{◌≡◌, ◌∙◌, ap, sym, refl, subst, ℕ, zero, suc, ◌+◌, ◌<◌, ◌≤◌, ◌==◌}
use Rattle.std.proofs.Common.{min, max, Bool, true, false, cond, List, length, set, replicate}
use Rattle.std.proofs.Common.{get_or, arith, ◌⊎◌, inl, inr, get_or-set_same, get_or-set_other}
use Rattle.std.proofs.Common.{length-set}
use Rattle.std.specs.Prelude.{◌&&◌, nat_le, nat_lt}
use Rattle.std.proofs.lemmas.Bool.{cases_lt, cases_eq, and_parts, eq-eqb, ne_eqb, eqb-true}
use Rattle.std.proofs.lemmas.Bool.{eqb-false, true≢false, and_from}
use borrow.Author.Tests.{lt-ltb, le-leb, ltb-true, leb-true}
use Rattle.std.proofs.lemmas.List.{length-replicate}
use Rattle.std.specs.Cmp.{both_ways}
use Rattle.label_base.specs.Bounded.{all_below, implies}
use Rattle.label_base.proofs.BoundedLemmas.{all_at, all_from, implies_at}
use Rattle.tree_model.specs.GroupLists.{next_at}
use Rattle.tree_model.specs.ExtentEnds.{within_extent, closed_extent, first_of_group, last_below}
use Rattle.tree_model.specs.ExtentEnds.{last_at}
use Rattle.tree_model.specs.ExtentEnds.{last_name, AreLasts, IsLeastIn, IsGreatestIn, AreLow}
use Rattle.tree_model.specs.ExtentEnds.{AreHigh}
use Rattle.tree_model.specs.ExtentEnds.{AreClosed, AreGroupExtents}
use Rattle.tree_model.proofs.NameLemmas.{next_is}

-- one more extent
pub least_more : (f : ℕ → ℕ) (a b c v w : ℕ) → IsLeastIn f a b v → IsLeastIn f b c w
    → IsLeastIn f a c (min v w)
least_more f a b c v w r s = elim (cases_lt v w) [
  | inl lt ↦ (let m : v ≡ min v w = omega (arith, lt) in subst (λ x. IsLeastIn f a c x) m (record {
    low = λ k l h. elim (cases_lt k b)
        [ inl i ↦ r.low k l i | inr i ↦ (let t = s.low k i h in omega (arith, t, lt)) ];
    place = r.place;
    from = r.from;
    upto = omega (arith, r.upto, s.from, s.upto);
    met = r.met;
  }))
  | inr ge ↦ (let m : w ≡ min v w = omega (arith, ge) in subst (λ x. IsLeastIn f a c x) m (record {
    low = λ k l h. elim (cases_lt k b)
        [ inl i ↦ (let t = r.low k l i in omega (arith, t, ge)) | inr i ↦ s.low k i h ];
    place = s.place;
    from = omega (arith, r.from, r.upto, s.from);
    upto = s.upto;
    met = s.met;
  }))
]

pub greatest_more : (f : ℕ → ℕ) (a b c v w : ℕ) → IsGreatestIn f a b v → IsGreatestIn f b c w
    → IsGreatestIn f a c (max v w)
greatest_more f a b c v w r s = elim (cases_lt w v) [
  | inl lt ↦ (let m : v ≡ max v w = omega (arith, lt) in
      subst (λ x. IsGreatestIn f a c x) m (record {
        high = λ k l h. elim (cases_lt k b)
            [ inl i ↦ r.high k l i | inr i ↦ (let t = s.high k i h in omega (arith, t, lt)) ];
        place = r.place;
        from = r.from;
        upto = omega (arith, r.upto, s.from, s.upto);
        met = r.met;
      }))
  | inr ge ↦ (let m : w ≡ max v w = omega (arith, ge) in
      subst (λ x. IsGreatestIn f a c x) m (record {
        high = λ k l h. elim (cases_lt k b)
            [ inl i ↦ (let t = r.high k l i in omega (arith, t, ge)) | inr i ↦ s.high k i h ];
        place = s.place;
        from = omega (arith, r.from, r.upto, s.from);
        upto = s.upto;
        met = s.met;
      }))
]

-- the next extent behind those that were closed
module _ (groups ends first last : List ℕ) (e c : ℕ)
    (extents : AreGroupExtents groups ends first last)
    (within : e < length groups) (behind : e < c) (more : c < get_or ends e 0) where
  extent_within : c < length groups
  extent_within = let w = extents.ends_are.within e (omega (arith, within, extents.paired)) in
      omega (arith, w, more, extents.paired)

  pub extent_behind : e < get_or ends c 0
  extent_behind = let w =
      extents.ends_are.behind c (omega (arith, extent_within, extents.paired)) in
      omega (arith, w, behind)

  pub extent_smaller : c < get_or ends c 0
  extent_smaller = extents.ends_are.behind c (omega (arith, extent_within, extents.paired))

  pub extent_upto : get_or ends c 0 ≤ get_or ends e 0
  extent_upto = extents.ends_are.nested e c (omega (arith, within, extents.paired))
      (omega (arith, behind))
      more

  pub least_step : (low : List ℕ) (least new : ℕ) → AreLow groups ends (e + 1) low
      → IsLeastIn (first_of_group groups) e c least → new ≡ min least (get_or low c 0)
      → IsLeastIn (first_of_group groups) e (get_or ends c 0) new
  least_step low least new r h n =
      subst (λ v. IsLeastIn (first_of_group groups) e (get_or ends c 0) v) (sym n)
      (least_more (first_of_group groups) e c (get_or ends c 0) least (get_or low c 0) h
      (r.least c (omega (arith, behind)) extent_within))

  pub greatest_step : (high : List ℕ) (greatest new : ℕ) → AreHigh groups ends (e + 1) high
      → IsGreatestIn (last_name groups) e c greatest → new ≡ max greatest (get_or high c 0)
      → IsGreatestIn (last_name groups) e (get_or ends c 0) new
  greatest_step high greatest new r h n =
      subst (λ v. IsGreatestIn (last_name groups) e (get_or ends c 0) v) (sym n)
      (greatest_more (last_name groups) e c (get_or ends c 0) greatest (get_or high c 0) h
      (r.greatest c (omega (arith, behind)) extent_within))

-- the last entry of a group
pub lasts_none : (groups : List ℕ) (count : ℕ) → AreLasts groups 0 (replicate count 0)
unfolding last_at
lasts_none groups count = record { last = λ g l. zeros count g }
  where
    zeros : (n g : ℕ) → get_or {A = ℕ} (replicate n 0) g 0 ≡ 0
    zeros zero g = refl
    zeros (suc n) zero = refl
    zeros (suc n) (suc g) = zeros n g

last_case : (groups last : List ℕ) (e group g : ℕ) → group ≡ get_or groups e 0
    → (r : AreLasts groups e last) → g < length (set last group e) → (g ≡ group) ⊎ (g ≡ group → ⊥)
    → get_or (set last group e) g 0 ≡ last_at groups (e + 1) g
unfolding last_at
last_case groups last e group g h r low (inl same) =
    let b : (get_or groups e 0 == g) ≡ true = eq-eqb (get_or groups e 0) g (sym h ∙ sym same) in
    let w : group < length last = omega (arith, length-set last group e, low, same) in
    let s : suc e ≡ e + 1 = omega arith in
    subst (λ i. get_or (set last group e) i 0 ≡ e) (sym same) (get_or-set_same last group e 0 w)
    ∙ sym (ap (λ t. cond t e (last_below groups e g)) b)
    ∙ ap (λ n. last_below groups n g) s
last_case groups last e group g h r low (inr other) =
    let b : (get_or groups e 0 == g) ≡ false =
    ne_eqb (get_or groups e 0) g (λ same. other (sym same ∙ sym h)) in
    let s : suc e ≡ e + 1 = omega arith in
    get_or-set_other last group g e 0 other
    ∙ r.last g (omega (arith, length-set last group e, low))
    ∙ sym (ap (λ t. cond t e (last_below groups e g)) b)
    ∙ ap (λ n. last_below groups n g) s

pub last_put : (groups last : List ℕ) (e group : ℕ) → group ≡ get_or groups e 0
    → AreLasts groups e last → AreLasts groups (e + 1) (set last group e)
last_put groups last e group h r =
    record { last = λ g low. last_case groups last e group g h r low (cases_eq g group) }

-- what the last entry is
record IsLast (groups : List ℕ) (n g x v : ℕ) : Type 0 where
  pub high : x ≤ v
  pub within : v < n
  pub own : get_or groups v 0 ≡ g

last_step : (groups : List ℕ) (n g x : ℕ) (b : Bool) → (get_or groups n 0 == g) ≡ b → x < suc n
    → get_or groups x 0 ≡ g
    → (x < n → IsLast groups n g x (last_below groups n g))
    → IsLast groups (suc n) g x (cond b n (last_below groups n g))
last_step groups n g x true e l h f =
    record { high = omega (arith, l); within = omega arith; own = eqb-true (get_or groups n 0) g e }
last_step groups n g x false e l h f = elim (cases_lt x n) [
  | inl lt ↦ (let r = f lt in
      record { high = r.high; within = omega (arith, r.within); own = r.own })
  | inr ge ↦ (let same : x ≡ n = omega (arith, l, ge) in
      absurd (eqb-false (get_or groups n 0) g e (ap (λ k. get_or groups k 0) (sym same) ∙ h)))
]

last_is : (groups : List ℕ) (n g x : ℕ) → x < n → get_or groups x 0 ≡ g
    → IsLast groups n g x (last_below groups n g)
last_is groups zero g x l h = absurd (omega (arith, l))
last_is groups (suc n) g x l h = last_step groups n g x (get_or groups n 0 == g) refl l h
    (λ lt. last_is groups n g x lt h)

last_shown : (groups : List ℕ) (x k : ℕ) → x < length groups → get_or groups x 0 ≡ get_or groups k 0
    → IsLast groups (length groups) (get_or groups k 0) x (last_name groups k)
unfolding last_at
last_shown groups x k l h = last_is groups (length groups) (get_or groups k 0) x l h

-- what the first entry is
first_high : (groups : List ℕ) (x k : ℕ) → x < length groups → get_or groups x 0 ≡ get_or groups k 0
    → first_of_group groups k ≤ x
first_high groups x k l h =
    let g = get_or groups k 0 in
    let r = next_is groups 0 g (omega arith) in
    elim (cases_lt x (next_at groups 0 g)) [
      | inl lt ↦ absurd
          (true≢false (sym (eq-eqb (get_or groups x 0) g h) ∙ r.before x (omega arith) lt))
      | inr ge ↦ ge
    ]

first_own : (groups : List ℕ) (k : ℕ) → k < length groups
    → (first_of_group groups k < length groups)
    × (get_or groups (first_of_group groups k) 0 ≡ get_or groups k 0)
first_own groups k l =
    let low : first_of_group groups k ≤ k = first_high groups k k l refl in
    let within : first_of_group groups k < length groups = omega (arith, low, l) in
    (within, (next_is groups 0 (get_or groups k 0) (omega arith)).found within)

pub implied : (a b : Bool) → (a ≡ true → b ≡ true) → implies a b ≡ true
implied true b f = f refl
implied false b f = refl

-- an entry of an extent
pub run_parts : (ends : List ℕ) (d e : ℕ) → within_extent ends d e ≡ true → (d ≤ e)
    × (e < get_or ends d 0)
run_parts ends d e h = let p = and_parts (nat_le d e) (nat_lt e (get_or ends d 0)) h in
    (leb-true d e p.0, ltb-true e (get_or ends d 0) p.1)

pub run_from : (ends : List ℕ) (d e : ℕ) → d ≤ e → e < get_or ends d 0 → within_extent ends d e
    ≡ true
run_from ends d e l h = and_from (nat_le d e) (nat_lt e (get_or ends d 0)) (le-leb d e l)
    (lt-ltb e (get_or ends d 0) h)

module _ (groups ends : List ℕ) (d least greatest : ℕ) (within : get_or ends d 0 ≤ length groups)
    (low : IsLeastIn (first_of_group groups) d (get_or ends d 0) least)
    (high : IsGreatestIn (last_name groups) d (get_or ends d 0) greatest) where
  end : ℕ
  end = get_or ends d 0

  -- where the extent is closed, its groups begin and end in it
  closed_at_both : (e x : ℕ) → closed_extent groups ends d ≡ true → d ≤ e → e < end
      → x < length groups
      → get_or groups x 0 ≡ get_or groups e 0 → (d ≤ x) × (x < end)
  unfolding end
  closed_at_both e x h l m w same =
      let here = implies_at (within_extent ends d e)
      (all_below (length groups)
      (λ x. implies (get_or groups x 0 == get_or groups e 0) (within_extent ends d x)))
      (all_at (length groups)
      (λ e. implies (within_extent ends d e)
      (all_below (length groups)
      (λ x. implies (get_or groups x 0 == get_or groups e 0) (within_extent ends d x)))) e h
      (omega (arith, m, within)))
      (run_from ends d e l m) in
      let there = implies_at (get_or groups x 0 == get_or groups e 0) (within_extent ends d x)
      (all_at (length groups)
      (λ x. implies (get_or groups x 0 == get_or groups e 0) (within_extent ends d x)) x here w)
      (eq-eqb (get_or groups x 0) (get_or groups e 0) same) in
      run_parts ends d x there

  flag_from : closed_extent groups ends d ≡ true → (nat_le d least && nat_lt greatest end) ≡ true
  unfolding end
  flag_from h =
      let a = first_own groups low.place (omega (arith, low.upto, within)) in
      let below = closed_at_both low.place (first_of_group groups low.place) h low.from low.upto a.0
      a.1 in
      let z = last_shown groups high.place high.place (omega (arith, high.upto, within)) refl in
      let above = closed_at_both high.place (last_name groups high.place) h high.from high.upto
      z.within z.own in
      and_from (nat_le d least) (nat_lt greatest end)
      (le-leb d least (omega (arith, below.0, low.met)))
      (lt-ltb greatest end (omega (arith, above.1, high.met)))

  closed_entry : d ≤ least → greatest < end → (e x : ℕ) → d ≤ e → e < end → x < length groups
      → get_or groups x 0 ≡ get_or groups e 0 → within_extent ends d x ≡ true
  unfolding end
  closed_entry p q e x l m w same =
      let a = first_high groups x e w same in
      let b = low.low e l m in
      let y = last_shown groups x e w same in
      let z = high.high e l m in
      run_from ends d x (omega (arith, p, a, b)) (omega (arith, q, y.high, z))

  from_flag : (nat_le d least && nat_lt greatest end) ≡ true → closed_extent groups ends d ≡ true
  unfolding end
  from_flag h =
      let p = and_parts (nat_le d least) (nat_lt greatest end) h in
      let starts = leb-true d least p.0 in
      let stops = ltb-true greatest end p.1 in
      all_from (length groups)
      (λ e. implies (within_extent ends d e)
      (all_below (length groups)
      (λ x. implies (get_or groups x 0 == get_or groups e 0) (within_extent ends d x))))
      (λ e w. implied (within_extent ends d e)
      (all_below (length groups)
      (λ x. implies (get_or groups x 0 == get_or groups e 0) (within_extent ends d x)))
      (λ there. let i = run_parts ends d e there in
      all_from (length groups)
      (λ x. implies (get_or groups x 0 == get_or groups e 0) (within_extent ends d x))
      (λ x v. implied (get_or groups x 0 == get_or groups e 0) (within_extent ends d x)
      (λ same. closed_entry starts stops e x i.0 i.1 v
      (eqb-true (get_or groups x 0) (get_or groups e 0) same)))))

  pub flag_is : (nat_le d least && nat_lt greatest (get_or ends d 0)) ≡ closed_extent groups ends d
  unfolding end
  flag_is = both_ways (nat_le d least && nat_lt greatest end) (closed_extent groups ends d)
      from_flag
      flag_from

-- one more extent closed
low_case : (groups ends low : List ℕ) (e least k : ℕ) → e < length groups
    → IsLeastIn (first_of_group groups) e (get_or ends e 0) least → AreLow groups ends (e + 1) low
    → e ≤ k → k < length groups → (k ≡ e) ⊎ (k ≡ e → ⊥)
    → IsLeastIn (first_of_group groups) k (get_or ends k 0) (get_or (set low e least) k 0)
low_case groups ends low e least k l h r from upto (inl same) =
    subst (λ i. IsLeastIn (first_of_group groups) i (get_or ends i 0)
    (get_or (set low e least) i 0))
    (sym same)
    (subst (λ v. IsLeastIn (first_of_group groups) e (get_or ends e 0) v)
    (sym (get_or-set_same low e least 0 (omega (arith, l, r.sized)))) h)
low_case groups ends low e least k l h r from upto (inr other) =
    subst (λ v. IsLeastIn (first_of_group groups) k (get_or ends k 0) v)
    (sym (get_or-set_other low e k least 0 other)) (r.least k (omega (arith, from, other)) upto)

pub low_put : (groups ends low : List ℕ) (e least : ℕ) → e < length groups
    → IsLeastIn (first_of_group groups) e (get_or ends e 0) least → AreLow groups ends (e + 1) low
    → AreLow groups ends e (set low e least)
low_put groups ends low e least l h r = record {
  sized = length-set low e least ∙ r.sized;
  least = λ k from upto. low_case groups ends low e least k l h r from upto (cases_eq k e);
}

high_case : (groups ends high : List ℕ) (e greatest k : ℕ) → e < length groups
    → IsGreatestIn (last_name groups) e (get_or ends e 0) greatest
    → AreHigh groups ends (e + 1) high
    → e ≤ k → k < length groups → (k ≡ e) ⊎ (k ≡ e → ⊥)
    → IsGreatestIn (last_name groups) k (get_or ends k 0) (get_or (set high e greatest) k 0)
high_case groups ends high e greatest k l h r from upto (inl same) =
    subst (λ i. IsGreatestIn (last_name groups) i (get_or ends i 0)
    (get_or (set high e greatest) i 0)) (sym same)
    (subst (λ v. IsGreatestIn (last_name groups) e (get_or ends e 0) v)
    (sym (get_or-set_same high e greatest 0 (omega (arith, l, r.sized)))) h)
high_case groups ends high e greatest k l h r from upto (inr other) =
    subst (λ v. IsGreatestIn (last_name groups) k (get_or ends k 0) v)
    (sym (get_or-set_other high e k greatest 0 other))
    (r.greatest k (omega (arith, from, other)) upto)

pub high_put : (groups ends high : List ℕ) (e greatest : ℕ) → e < length groups
    → IsGreatestIn (last_name groups) e (get_or ends e 0) greatest
    → AreHigh groups ends (e + 1) high → AreHigh groups ends e (set high e greatest)
high_put groups ends high e greatest l h r = record {
  sized = length-set high e greatest ∙ r.sized;
  greatest = λ k from upto. high_case groups ends high e greatest k l h r from upto (cases_eq k e);
}

closed_case : (groups ends : List ℕ) (closed : List Bool) (e k : ℕ) (flag : Bool)
    → e < length groups → flag ≡ closed_extent groups ends e → AreClosed groups ends (e + 1) closed
    → e ≤ k → k < length groups → (k ≡ e) ⊎ (k ≡ e → ⊥) → get_or (set closed e flag) k false
    ≡ closed_extent groups ends k
closed_case groups ends closed e k flag l h r from upto (inl same) =
    subst (λ i. get_or (set closed e flag) i false ≡ closed_extent groups ends i) (sym same)
    (get_or-set_same closed e flag false (omega (arith, l, r.sized)) ∙ h)
closed_case groups ends closed e k flag l h r from upto (inr other) =
    get_or-set_other closed e k flag false other ∙ r.flags k (omega (arith, from, other)) upto

pub closed_put : (groups ends first last : List ℕ) (closed : List Bool) (e least greatest : ℕ)
    (flag : Bool) → AreGroupExtents groups ends first last → e < length groups
    → IsLeastIn (first_of_group groups) e (get_or ends e 0) least
    → IsGreatestIn (last_name groups) e (get_or ends e 0) greatest
    → flag ≡ (nat_le e least && nat_lt greatest (get_or ends e 0))
    → AreClosed groups ends (e + 1) closed → AreClosed groups ends e (set closed e flag)
closed_put groups ends first last closed e least greatest flag extents l low high h r =
    let within : get_or ends e 0 ≤ length groups =
    (let w = extents.ends_are.within e (omega (arith, l, extents.paired)) in
    omega (arith, w, extents.paired)) in
    let own : flag ≡ closed_extent groups ends e = h ∙ flag_is groups ends e least greatest within
    low
    high in
    record {
      sized = length-set closed e flag ∙ r.sized;
      flags = λ k from upto. closed_case groups ends closed e k flag l own r from upto
          (cases_eq k e);
    }

-- nothing closed
pub low_none : (groups ends : List ℕ) → AreLow groups ends (length groups)
    (replicate (length groups) 0)
low_none groups ends =
    record {
      sized = length-replicate (length groups) 0;
      least = λ k from upto. absurd
          (omega (arith, from, upto));
    }

pub high_none : (groups ends : List ℕ) → AreHigh groups ends (length groups)
    (replicate (length groups) 0)
high_none groups ends =
    record {
      sized = length-replicate (length groups) 0;
      greatest = λ k from upto. absurd
          (omega (arith, from, upto));
    }

pub closed_none : (groups ends : List ℕ) → AreClosed groups ends (length groups)
    (replicate (length groups) false)
closed_none groups ends =
    record {
      sized = length-replicate (length groups) false;
      flags = λ k from upto. absurd
          (omega (arith, from, upto));
    }
