-- Groups numbered by first entries.
use Rattle.std.proofs.Common.{◌≡◌, ◌∙◌, ap, ap₂, sym, refl, subst, ℕ, zero, suc, ◌+◌, ◌<◌, ◌≤◌}
use Rattle.std.proofs.Common.{◌==◌, Bool, true, false, cond, not, ◌||◌, List, [], ◌∷◌, ◌++◌, length}
use Rattle.std.proofs.Common.{take, get_or, arith, inl, inr, length-append}
use Rattle.std.specs.Prelude.{nat_lt}
use Rattle.std.specs.List.{list_any, position_or_len}
use Rattle.std.proofs.lemmas.Bool.{eqb-true, ltb-true, ltb-false, and_parts, or_parts, true≢false}
use Rattle.std.proofs.lemmas.Bool.{cases_lt}
use Rattle.std.proofs.lemmas.List.{get_or-map, length-map, length-take-le, take_more, take_all}
use Rattle.std.proofs.lemmas.List.{get_or-take}
use Rattle.std.proofs.lemmas.List.Folds.{list_any-append}
use Rattle.std.proofs.lemmas.List.Sums.{prefix_len_passes, prefix_len_stops}
use Rattle.tree_model.specs.Links.{same_inode}
use Rattle.tree_model.specs.Groups.{inode_added, inodes_behind}
use Rattle.tree_model.specs.GroupLists.{groups_behind}
use Rattle.tree_model.specs.Firsts.{count_next, first_with_inode, firsts_of, group_next}
use Rattle.tree_model.proofs.GroupLemmas.{groups_are, groups_within, length_behind, no_place}
use Rattle.tree_model.proofs.GroupLemmas.{same_itself}
use Rattle.tree_model.proofs.NumberingLemmas.{Inode}

abbrev pub inode_in : List Inode → ℕ → Inode
inode_in inodes e = get_or inodes e (0, 0)

-- ---- what is first

not_true : (b : Bool) → not b ≡ true → b ≡ false
not_true true h = sym h
not_true false h = refl

not_false : (b : Bool) → not b ≡ false → b ≡ true
not_false true h = refl
not_false false h = sym h

-- none before the first one has the inode
pub other_before : (inodes : List Inode) (i : Inode) (k : ℕ) → k < first_with_inode inodes i
    → same_inode i (inode_in inodes k) ≡ false
other_before inodes i k l =
    not_true (same_inode i (inode_in inodes k))
    (prefix_len_passes (λ j. not (same_inode i j)) inodes k (0, 0) l)

pub same_first : (inodes : List Inode) (i : Inode) → first_with_inode inodes i < length inodes
    → same_inode i (inode_in inodes (first_with_inode inodes i)) ≡ true
same_first inodes i l = not_false (same_inode i (inode_in inodes (first_with_inode inodes i)))
    (prefix_len_stops (λ j. not (same_inode i j)) inodes (0, 0) l)

-- one that has it isn't before the first one
pub first_upto : (inodes : List Inode) (i : Inode) (k : ℕ) → same_inode i (inode_in inodes k) ≡ true
    → first_with_inode inodes i ≤ k
first_upto inodes i k h = elim (cases_lt k (first_with_inode inodes i)) [
  | inl lt ↦ absurd (true≢false (sym h ∙ other_before inodes i k lt))
  | inr ge ↦ ge
]

pub own_first : (inodes : List Inode) (e : ℕ) → first_with_inode inodes (inode_in inodes e) ≤ e
own_first inodes e = first_upto inodes (inode_in inodes e) e (same_itself (inode_in inodes e))

pub exact : (a b : Inode) → same_inode a b ≡ true → a ≡ b
exact a b h =
    let both = and_parts (a.0 == b.0) (a.1 == b.1) h in
    let first = eqb-true a.0 b.0 both.0 in
    let second = eqb-true a.1 b.1 both.1 in
    λ i. (first i, second i)

-- ---- the inodes that were met

pub behind_more : (inodes seen : List Inode) (i : Inode) → inodes_behind seen (inodes ++ i ∷ [])
    ≡ inode_added (inodes_behind seen inodes) i
behind_more [] seen i = refl
behind_more (x ∷ xs) seen i = behind_more xs (inode_added seen x) i

none_with : (p : Inode → Bool) (seen : List Inode) (i : Inode) (b : Bool) → list_any p seen ≡ false
    → p i ≡ false → list_any p (cond b seen (seen ++ i ∷ [])) ≡ false
none_with p seen i true s h = s
none_with p seen i false s h = list_any-append p seen (i ∷ []) ∙ ap₂ (λ a b. a || (b || false)) s h

pub none_behind : (p : Inode → Bool) (inodes seen : List Inode) → list_any p seen ≡ false
    → list_any p inodes ≡ false → list_any p (inodes_behind seen inodes) ≡ false
none_behind p [] seen s h = s
none_behind p (x ∷ xs) seen s h =
    let both = or_parts (p x) (list_any p xs) h in
    none_behind p xs (inode_added seen x)
    (none_with p seen x (list_any (same_inode x) seen) s both.0) both.1

none_upto : (p : Inode → Bool) (xs : List Inode) (e : ℕ)
    → ((k : ℕ) → k < e → k < length xs → p (inode_in xs k) ≡ false) → list_any p (take e xs) ≡ false
none_upto p xs zero h = refl
none_upto p [] (suc e) h = refl
none_upto p (x ∷ xs) (suc e) h =
    ap₂ (λ a b. a || b) (h 0 (omega arith) (omega arith))
    (none_upto p xs e (λ k l m. h (suc k) (omega (arith, l)) (omega (arith, m))))

-- ---- the number of a new group

pub group_new : (inodes seen : List Inode) (e : ℕ) → e < length inodes
    → list_any (same_inode (inode_in inodes e)) (inodes_behind seen (take e inodes)) ≡ false
    → get_or (groups_behind seen inodes) e 0 ≡ length (inodes_behind seen (take e inodes))
group_new [] seen e l h = absurd (omega (arith, l))
group_new (x ∷ xs) seen zero l h = no_place (same_inode x) seen h
group_new (x ∷ xs) seen (suc e) l h = group_new xs (inode_added seen x) e (omega (arith, l)) h

module _ (inodes : List Inode) (e : ℕ) (l : e < length inodes) where
  abbrev own : Inode
  own = inode_in inodes e

  abbrev seen : List Inode
  seen = inodes_behind [] (take e inodes)

  upto : length (take e inodes) ≡ e
  upto = length-take-le e inodes (omega (arith, l))

  met : inodes_behind [] (take (e + 1) inodes) ≡ inode_added seen own
  met = ap (inodes_behind []) (take_more inodes e (0, 0) l) ∙ behind_more (take e inodes) [] own

  -- ---- an inode that is met for the first time
  none_seen : e ≤ first_with_inode inodes own → list_any (same_inode own) seen ≡ false
  none_seen g = none_behind (same_inode own) (take e inodes) [] refl
      (none_upto (same_inode own) inodes e
      (λ k a b. other_before inodes own k (omega (arith, a, g))))

  number_new : e ≤ first_with_inode inodes own → get_or (groups_behind [] inodes) e 0 ≡ length seen
  number_new g = group_new inodes [] e l (none_seen g)

  count_new : e ≤ first_with_inode inodes own → length (inode_added seen own) ≡ length seen + 1
  count_new g = ap (λ b. length (cond b seen (seen ++ own ∷ []))) (none_seen g)
      ∙ length-append seen (own ∷ [])

  -- ---- an inode that was met
  module _ (low : first_with_inode inodes own < e) where
    abbrev first : ℕ
    first = first_with_inode inodes own

    one_inode : own ≡ inode_in inodes first
    one_inode = exact own (inode_in inodes first) (same_first inodes own (omega (arith, low, l)))

    place_at : (k : ℕ) → k < length inodes → get_or (groups_behind [] inodes) k 0 ≡ position_or_len
        (same_inode (inode_in inodes k)) (inodes_behind [] inodes)
    place_at k m =
        ap (λ gs. get_or gs k 0) (groups_are inodes [])
        ∙ get_or-map (λ i. position_or_len (same_inode i) (inodes_behind [] inodes)) inodes k (0, 0)
        0 m

    number_again : get_or (groups_behind [] inodes) e 0 ≡ get_or (groups_behind [] inodes) first 0
    number_again =
        place_at e l
        ∙ ap (λ i. position_or_len (same_inode i) (inodes_behind [] inodes)) one_inode
        ∙ sym (place_at first (omega (arith, low, l)))

    read_upto : inode_in (take e inodes) first ≡ own
    read_upto = get_or-take e inodes first (0, 0) low ∙ sym one_inode

    place_seen : position_or_len (same_inode own) seen < length seen
    place_seen =
        let w : first < length (take e inodes) = omega (arith, low, upto) in
        let h = groups_within (take e inodes) [] first w in
        let g = ap (λ gs. get_or gs first 0) (groups_are (take e inodes) [])
        ∙ get_or-map (λ i. position_or_len (same_inode i) seen) (take e inodes) first (0, 0) 0 w
        ∙ ap (λ i. position_or_len (same_inode i) seen) read_upto in
        subst (λ k. k < length seen) g h

    is_seen : (b : Bool) → list_any (same_inode own) seen ≡ b → b ≡ true
    is_seen true h = refl
    is_seen false h = absurd (omega (arith, place_seen, no_place (same_inode own) seen h))

    count_again : length (inode_added seen own) ≡ length seen
    count_again = ap (λ b. length (cond b seen (seen ++ own ∷ [])))
        (is_seen (list_any (same_inode own) seen) refl)

-- ---- one entry more

-- the groups of the entries before one, and how many groups these have
pub record AreNumbered (inodes : List Inode) (e : ℕ) (groups : List ℕ) (count : ℕ) : Type 0 where
  pub groups_are : groups ≡ take e (groups_behind [] inodes)
  pub count_is : count ≡ length (inodes_behind [] (take e inodes))

module _ (inodes : List Inode) (e count : ℕ) (groups : List ℕ) (l : e < length inodes)
    (n : AreNumbered inodes e groups count) where
  sized : length groups ≡ e
  sized = ap length n.groups_are ∙ length-take-le e (groups_behind [] inodes)
      (omega (arith, l, length_behind inodes []))

  abbrev its_first : ℕ
  its_first = first_with_inode inodes (inode_in inodes e)

  by_count : (b : Bool) → nat_lt its_first (length groups) ≡ b
      → (get_or (groups_behind [] inodes) e 0 ≡ cond b (get_or groups its_first 0) count)
      × (length (inodes_behind [] (take (e + 1) inodes)) ≡ cond b count (count + 1))
  by_count true h =
      let low : its_first < e = omega (arith, ltb-true its_first (length groups) h, sized) in (
        number_again inodes e l low
            ∙ sym (ap (λ gs. get_or gs its_first 0) n.groups_are
            ∙ get_or-take e (groups_behind [] inodes) its_first 0 low),
        ap length (met inodes e l) ∙ count_again inodes e l low ∙ sym n.count_is,
      )
  by_count false h =
      let high : e ≤ its_first = omega (arith, ltb-false its_first (length groups) h, sized) in (
        number_new inodes e l high ∙ sym n.count_is,
        ap length (met inodes e l) ∙ count_new inodes e l high ∙ ap (λ k. k + 1) (sym n.count_is),
      )

  -- the groups of the entries with one more
  pub numbered_next : (first : ℕ) → first ≡ its_first → (groups' : List ℕ) (count' : ℕ)
      → groups' ≡ groups ++ group_next groups count first ∷ []
      → count' ≡ count_next groups count first
      → AreNumbered inodes (e + 1) groups' count'
  numbered_next first f groups' count' g c =
      let both = by_count (nat_lt its_first (length groups)) refl in
      record {
        groups_are = g ∙ ap (λ k. groups ++ group_next groups count k ∷ []) f
            ∙ ap₂ (λ gs k. gs ++ k ∷ []) n.groups_are (sym both.0)
            ∙ sym (take_more (groups_behind [] inodes) e 0
            (omega (arith, l, length_behind inodes [])));
        count_is = c ∙ ap (count_next groups count) f ∙ sym both.1;
      }

pub numbered_none : (inodes : List Inode) → AreNumbered inodes 0 [] 0
numbered_none inodes = record { groups_are = refl; count_is = refl }

-- all entries
pub numbered_all : (inodes : List Inode) (e count : ℕ) (groups : List ℕ) → length inodes ≤ e
    → AreNumbered inodes e groups count
    → (groups ≡ groups_behind [] inodes) × (count ≡ length (inodes_behind [] inodes))
numbered_all inodes e count groups h n = (
  n.groups_are ∙ take_all e (groups_behind [] inodes) (omega (arith, h, length_behind inodes [])),
  n.count_is ∙ ap (λ is. length (inodes_behind [] is)) (take_all e inodes h),
)

count_case : (b : Bool) (count : ℕ) → cond b count (count + 1) ≤ count + 1
count_case true count = omega arith
count_case false count = omega arith

pub count_upto : (groups : List ℕ) (count first : ℕ) → count_next groups count first ≤ count + 1
count_upto groups count first = count_case (nat_lt first (length groups)) count

-- a first entry that is read
pub first_read : (inodes : List Inode) (firsts : List ℕ) (e : ℕ) → firsts ≡ firsts_of inodes
    → e < length firsts
    → (e < length inodes) × (get_or firsts e 0 ≡ first_with_inode inodes (inode_in inodes e))
first_read inodes firsts e h l =
    let w : e < length inodes =
    omega (arith, l, ap length h, length-map inodes (first_with_inode inodes)) in
    (w, ap (λ fs. get_or fs e 0) h ∙ get_or-map (first_with_inode inodes) inodes e (0, 0) 0 w)

pub firsts_over : (inodes : List Inode) (firsts : List ℕ) (e : ℕ) → firsts ≡ firsts_of inodes
    → length firsts ≤ e → length inodes ≤ e
firsts_over inodes firsts e h l =
    omega (arith, l, ap length h, length-map inodes (first_with_inode inodes))
