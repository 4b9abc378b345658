-- The flags of entries are kept as the next place without one.
use Rattle.std.proofs.Common.{◌≡◌, ◌∙◌, ap, sym, refl, subst, ℕ, zero, suc, ◌+◌, ◌<◌, ◌≤◌, ◌==◌}
use Rattle.std.proofs.Common.{Bool, true, false, not, List, [], ◌∷◌, ◌++◌, ◌-◌, length}
use Rattle.std.proofs.Common.{length-append, map, replicate, get_or, arith, inl, inr}
use Rattle.std.specs.Prelude.{◌&&◌, nat_le, nat_lt, Option, Some, None}
use Rattle.std.proofs.lemmas.Bool.{cases_lt, and_parts, eq-eqb, ne_eqb, true≢false, le-leb}
use Rattle.std.proofs.lemmas.Bool.{leb-true, lt-ltb, ltb-true, and_from}
use Rattle.std.proofs.lemmas.List.{ext_get_or, get_or-map, length-map, get_or_append_left}
use Rattle.std.proofs.lemmas.List.{get_or-append_right, get_or-replicate, length-replicate}
use Rattle.std.proofs.Math.Seq.{get_or-append_seam}
use Rattle.std.specs.Cmp.{both_ways}
use Rattle.label_base.specs.Bounded.{all_below, all_numbers, implies, greatest_below}
use Rattle.label_base.proofs.BoundedLemmas.{IsGreatest, all_at, all_from, count_numbers}
use Rattle.label_base.proofs.BoundedLemmas.{greatest_shown, implies_at}
use Rattle.find_records.specs.Record.{Record}
use Rattle.tree_model.specs.Extents.{extent_of, in_extent, one_behind}
use Rattle.tree_model.specs.LiveLists.{AreDead, AreFlags, IsDead, KeepsFlags, live_from, live_of}
use Rattle.tree_model.proofs.ClosedLemmas.{implied}

length_live : (dead : List ℕ) (place : ℕ) → length (live_from place dead) ≡ length dead
length_live [] place = refl
length_live (d ∷ rest) place = ap suc (length_live rest (suc place))

count_live : (dead : List ℕ) (count : ℕ) → length (live_of dead count)
    ≡ length dead + (count - length dead)
unfolding live_of
count_live dead count =
    let words : length (live_from 0 dead) ≡ length dead = length_live dead 0 in
    let behind : length (replicate (count - length dead) true) ≡ count - length dead =
    length-replicate (count - length dead) true in
    omega (
      arith,
      length-append (live_from 0 dead) (replicate (count - length dead) true),
      words,
      behind,
    )

read_from : (dead : List ℕ) (place e : ℕ) → e < length dead → get_or (live_from place dead) e false
    ≡ not (get_or dead e 0 == place + e)
read_from [] place e l = absurd (omega (arith, l))
read_from (d ∷ rest) place zero l =
    (let s : place ≡ place + 0 = omega arith in ap (λ k. not (d == k)) s)
read_from (d ∷ rest) place (suc e) l = read_from rest (suc place) e (omega (arith, l))
    ∙ (let s : suc place + e ≡ place + suc e = omega arith in
    ap (λ k. not (get_or rest e 0 == k)) s)

live_read : (dead : List ℕ) (count e : ℕ) → e < length dead → get_or (live_of dead count) e false
    ≡ not (get_or dead e 0 == e)
unfolding live_of
live_read dead count e l =
    get_or_append_left (live_from 0 dead) (replicate (count - length dead) true) false e
    (omega (arith, l, length_live dead 0))
    ∙ read_from dead 0 e l
    ∙ (let s : 0 + e ≡ e = omega arith in ap (λ k. not (get_or dead e 0 == k)) s)

live_behind : (dead : List ℕ) (count e : ℕ) → length dead ≤ e → e < count
    → get_or (live_of dead count) e false ≡ true
unfolding live_of
live_behind dead count e a b =
    get_or-append_right (live_from 0 dead) (replicate (count - length dead) true) (length dead) e
    false (length_live dead 0) a
    ∙ get_or-replicate (count - length dead) (e - length dead) true false (omega (arith, a, b))

flag_case : (live : List Bool) (e dead : ℕ) (b : Bool) → e < length live → get_or live e false ≡ b
    → IsDead live e dead → not (dead == e) ≡ b
flag_case live e dead true l h r = ap not (ne_eqb dead e (λ same.
    let d : dead < length live = omega (arith, l, same) in
    true≢false (sym h ∙ ap (λ k. get_or live k false) (sym same) ∙ r.dies d)))
flag_case live e dead false l h r = elim (cases_lt e dead) [
  | inl lt ↦ absurd (true≢false (sym (r.lives e (omega arith) lt) ∙ h))
  | inr ge ↦ (let same : dead ≡ e = omega (arith, ge, r.low) in ap not (eq-eqb dead e same))
]

-- an entry is live where the next place without a flag is another
pub flag_shown : (live : List Bool) (e dead : ℕ) → e < length live → IsDead live e dead
    → not (dead == e) ≡ get_or live e false
flag_shown live e dead l r = flag_case live e dead (get_or live e false) l refl r

kept_at : (live : List Bool) (dead : List ℕ) (count e : ℕ) → KeepsFlags live dead count
    → e < length live → get_or (live_of dead count) e false ≡ get_or live e false
kept_at live dead count e r l = elim (cases_lt e (length dead)) [
  | inl lt ↦ live_read dead count e lt ∙ flag_shown live e (get_or dead e 0) l
      (r.dead_are.each e (omega arith) lt)
  | inr ge ↦ live_behind dead count e ge (omega (arith, l, r.count_is))
      ∙ sym (r.dead_are.ends.lives e ge l)
]

pub live_is : (live : List Bool) (dead : List ℕ) (count : ℕ) → KeepsFlags live dead count
    → live_of dead count ≡ live
live_is live dead count r =
    let sized : length (live_of dead count) ≡ length live =
    omega (arith, count_live dead count, r.count_is, r.dead_are.ends.within) in
    ext_get_or false (live_of dead count) live sized
    (λ e l. kept_at live dead count e r (omega (arith, l, sized)))

-- what was made of flags that were given keeps them
pub words_keep : (given live : List Bool) (dead : List ℕ) (count n : ℕ) → given ≡ live
    → AreDead given 0 dead → length live ≡ n → count ≡ n → KeepsFlags live dead count
words_keep given live dead count n same r sized counted = record {
  count_is = counted ∙ sym sized;
  dead_are = subst (λ l. AreDead l 0 dead) same r;
}

pub number_at : (n k : ℕ) → k < n → get_or (all_numbers n) k 0 ≡ k
number_at zero k l = absurd (omega (arith, l))
number_at (suc n) k l = elim (cases_lt k n) [
  | inl lt ↦ get_or_append_left (all_numbers n) (n ∷ []) 0 k (omega (arith, lt, count_numbers n))
      ∙ number_at n k lt
  | inr ge ↦ (let same : length (all_numbers n) ≡ k = omega (arith, ge, l, count_numbers n) in
      subst (λ j. get_or (all_numbers n ++ n ∷ []) j 0 ≡ n) same
      (get_or-append_seam (all_numbers n) n [] 0)
      ∙ (let own : n ≡ k = omega (arith, ge, l) in own))
]

pub flags_are : (n : ℕ) (test : ℕ → Bool) (live : List Bool) → AreFlags n test live
    → live ≡ map test (all_numbers n)
flags_are n test live r =
    let count : length (map test (all_numbers n)) ≡ n = length-map (all_numbers n) test
    ∙ count_numbers n in
    ext_get_or false live (map test (all_numbers n)) (r.sized ∙ sym count)
    (λ e l. let w : e < n = omega (arith, l, r.sized) in
    r.each e w ∙ sym (get_or-map test (all_numbers n) e 0 false (omega (arith, w, count_numbers n))
    ∙ ap test (number_at n e w)))

-- all of an extent is live where the next place without a flag is behind it
upto_case : (n : ℕ) (p : ℕ → Bool) (found : Option ℕ) → IsGreatest n p found → one_behind found ≤ n
upto_case n p None g = omega arith
upto_case n p (Some k) g = omega (arith, g.0)

extent_upto : (entries : List Record) (d : ℕ) → extent_of entries d ≤ length entries
extent_upto entries d = upto_case (length entries) (in_extent entries d)
    (greatest_below (length entries) (in_extent entries d))
    (greatest_shown (length entries) (in_extent entries d))

module _ (entries : List Record) (live : List Bool) (d end dead : ℕ)
    (sized : length live ≡ length entries) (end_is : end ≡ extent_of entries d)
    (run : (e : ℕ) → e < length entries → in_extent entries d e ≡ (nat_le d e && nat_lt e end))
    (r : IsDead live d dead) where
  abbrev all_live : Bool
  all_live = all_below (length entries) (λ e. implies (in_extent entries d e) (get_or live e false))

  inside_run : (e : ℕ) → e < length entries → d ≤ e → e < end → in_extent entries d e ≡ true
  inside_run e l a b = run e l ∙ and_from (nat_le d e) (nat_lt e end) (le-leb d e a)
      (lt-ltb e end b)

  from_dead : nat_le end dead ≡ true → all_live ≡ true
  from_dead h =
      all_from (length entries) (λ e. implies (in_extent entries d e) (get_or live e false))
      (λ e l. implied (in_extent entries d e) (get_or live e false)
      (λ t. let p = and_parts (nat_le d e) (nat_lt e end) (sym (run e l) ∙ t) in
      let low = leb-true d e p.0 in
      let high = ltb-true e end p.1 in
      let b = leb-true end dead h in
      r.lives e low (omega (arith, high, b))))

  to_dead : all_live ≡ true → nat_le end dead ≡ true
  to_dead h = elim (cases_lt dead end) [
    | inl lt ↦ (
        let up = extent_upto entries d in
        let w : dead < length entries = omega (arith, lt, up, end_is) in
        let t = implies_at (in_extent entries d dead) (get_or live dead false)
        (all_at (length entries) (λ e. implies (in_extent entries d e) (get_or live e false))
        dead h w) (inside_run dead w r.low lt) in
        absurd (true≢false (sym t ∙ r.dies (omega (arith, w, sized)))))
    | inr ge ↦ le-leb end dead ge
  ]

  pub whole_is : nat_le end dead ≡ all_below (length entries)
      (λ e. implies (in_extent entries d e) (get_or live e false))
  whole_is = both_ways (nat_le end dead) all_live from_dead to_dead
