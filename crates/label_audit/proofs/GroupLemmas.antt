-- The names of a group are skipped together, and the winner is the first of them that is wanted.
use Rattle.std.proofs.Common.{◌≡◌, ◌∙◌, sym, refl, ap, subst, ℕ, zero, suc, ◌+◌, ◌<◌, ◌≤◌, ◌==◌}
use Rattle.std.proofs.Common.{◌&&◌, Bool, true, false, cond, not, List, [], ◌∷◌, drop, filter}
use Rattle.std.proofs.Common.{length, get_or, Option, Some, None, inl, inr, arith, eq-eqb, ne_eqb}
use Rattle.std.proofs.Common.{if◌then◌else◌}
use Rattle.std.specs.Prelude.{IfSome, is_some, option_and_then}
use Rattle.std.specs.BTreeMap.{BTreeMap, get, is_at as is_at_key}
use Rattle.std.specs.Map.{lookup}
use Rattle.std.specs.Ordering.{nat_cmp}
use Rattle.std.specs.List.{find}
use Rattle.std.specs.Option.{option_or}
use Rattle.std.proofs.lemmas.Bool.{and_from, and_left, and_parts, and_right, cases_Bool, cases_eq}
use Rattle.std.proofs.lemmas.Bool.{cond_both, eqb-true}
use Rattle.std.proofs.lemmas.List.{at_drop_all, at_drop_more}
use Rattle.std.proofs.lemmas.List.Elements.{filter-append}
use Rattle.std.proofs.lemmas.List.Folds.{find-append}
use Rattle.label_base.specs.Bounded.{all_below, all_numbers, found_or, implies, least_below}
use Rattle.label_base.proofs.BoundedLemmas.{all_at, any_at, any_has, count_numbers, implies_at}
use Rattle.label_base.proofs.BoundedLemmas.{least_none}
use Rattle.tree_model.specs.Extents.{entry_at, in_extent, is_directory}
use Rattle.tree_model.specs.Groups.{closed_at, group_of, holds_groups, holds_names, names_in}
use Rattle.tree_model.specs.Selection.{whole_at}
use Rattle.tree_model.proofs.DeadLemmas.{number_at}
use Rattle.label_rules.specs.LookUp.{given_at, index_for}
use Rattle.relabel_core.specs.Walk.{Walk, can_win, walk_count, deciding, digest_now, is_current}
use Rattle.relabel_core.specs.Walk.{is_live, is_skipped, is_wanted, is_whole, skippable, skips}
use Rattle.relabel_core.specs.Walk.{walked, wanted, winner}
use Rattle.label_audit.specs.Winners.{AreWinnersKept, IsWinner, no_winner, winner_if}
use Rattle.label_audit.specs.declared.winners.Winner.{Winner}

-- ---- the names of a group are skipped together

-- what lies at or below an entry that holds its groups has all names of its group there
closed_holds : (w : Walk) (d e k : ℕ) → e < walk_count w → k < walk_count w
    → holds_groups w.entries d ≡ true → in_extent w.entries d e ≡ true
    → group_of w.entries k ≡ group_of w.entries e → in_extent w.entries d k ≡ true
closed_holds w d e k l m closed inside same =
    let inner = λ (x : ℕ). implies (group_of w.entries x == group_of w.entries e)
    (in_extent w.entries d x) in
    let here =
    implies_at (in_extent w.entries d e) (all_below (walk_count w) inner)
    (all_at (walk_count w)
    (λ x. implies (in_extent w.entries d x)
    (all_below (walk_count w)
    (λ y. implies (group_of w.entries y == group_of w.entries x) (in_extent w.entries d y)))) e
    closed l)
    inside in
    implies_at (group_of w.entries k == group_of w.entries e) (in_extent w.entries d k)
    (all_at (walk_count w) inner k here m)
    (eq-eqb (group_of w.entries k) (group_of w.entries e) same)

whole_of : (w : Walk) (d : ℕ) → skippable w d ≡ true → holds_groups w.entries d ≡ true
unfolding skippable
whole_of w d h =
    let outer = and_parts (skips w && is_whole w d) (is_current (w.stored d) (digest_now w d)) h in
    let middle = and_parts (skips w) (is_whole w d) outer.0 in
    let inner = and_parts (is_directory w.entries d) (whole_at w.entries w.live d) middle.1 in
    let closed =
    (and_parts (closed_at w.entries d)
    (all_below (walk_count w) (λ e. implies (in_extent w.entries d e) (get_or w.live e false)))
    inner.1).0 in
    (and_parts (holds_groups w.entries d) (holds_names w.entries d) closed).0

skipped_too : (w : Walk) (e k : ℕ) → e < walk_count w → k < walk_count w → group_of w.entries k
    ≡ group_of w.entries e → is_skipped w e ≡ true → is_skipped w k ≡ true
unfolding is_skipped
skipped_too w e k l m same h =
    let above = any_has (walk_count w) (λ d. skippable w d && in_extent w.entries d e) h in
    let parts = and_parts (skippable w above.0) (in_extent w.entries above.0 e) above.2 in
    any_at (walk_count w) (λ d. skippable w d && in_extent w.entries d k) above.0 above.1
    (and_from (skippable w above.0) (in_extent w.entries above.0 k) parts.0
    (closed_holds w above.0 e k l m (whole_of w above.0 parts.0) parts.1 same))

pub left_too : (w : Walk) (e k : ℕ) → e < walk_count w → k < walk_count w → group_of w.entries k
    ≡ group_of w.entries e → is_skipped w e ≡ false → is_skipped w k ≡ false
left_too w e k l m same h =
    elim (cases_Bool (is_skipped w k)) [
      | inl skips ↦ absurd (let both : is_skipped w e ≡ true = skipped_too w k e m l (sym same)
          skips in cc)
      | inr stays ↦ stays
    ]

unwanted_if : (live skipped : Bool) (index : Option ℕ) → skipped ≡ true
    → (if live && not skipped then index else None) ≡ None
unwanted_if true true index h = refl
unwanted_if false true index h = refl
unwanted_if live false index h = absurd cc

-- nothing is wanted for what is skipped
unwanted : (w : Walk) (e : ℕ) → is_skipped w e ≡ true → is_wanted w e ≡ false
unfolding wanted deciding walked
unwanted w e h =
    ap (λ index. is_some (given_at w.rules.rules index))
    (unwanted_if (is_live w e) (is_skipped w e) (index_for w.rules (entry_at w.entries e)) h)

no_name : (w : Walk) (e : ℕ) → e < walk_count w → is_skipped w e ≡ true
    → winner w (group_of w.entries e) ≡ None
unfolding winner
no_name w e l h =
    least_none (walk_count w) (can_win w (group_of w.entries e)) (λ k m.
    elim (cases_Bool (group_of w.entries k == group_of w.entries e)) [
      | inl same ↦ and_right (group_of w.entries k == group_of w.entries e) (is_wanted w k)
          (unwanted w k
          (skipped_too w e k l m (eqb-true (group_of w.entries k) (group_of w.entries e) same) h))
      | inr differ ↦ and_left (group_of w.entries k == group_of w.entries e) (is_wanted w k) differ
    ])

pub none_wins : (w : Walk) (e : ℕ) → e < walk_count w → is_skipped w e ≡ true
    → IsWinner w (group_of w.entries e) no_winner
none_wins w e l h =
    let none : winner w (group_of w.entries e) ≡ None = no_name w e l h in
    record { name_is = sym none; decided_is = sym (ap (option_and_then (deciding w)) none) }

-- ---- the winner is the first name that is wanted

by_test : (n : ℕ) (b : Bool) → found_or None n b ≡ cond b (Some n) None
by_test n true = refl
by_test n false = refl

one_at : (p : ℕ → Bool) (n : ℕ) (found : Option ℕ) (b : Bool) → found_or found n (b && p n)
    ≡ option_or found (find p (cond b (n ∷ []) []))
one_at p n (Some k) b = refl
one_at p n None true = by_test n (p n)
one_at p n None false = refl

least_found : (n : ℕ) (q p : ℕ → Bool) → least_below n (λ e. q e && p e)
    ≡ find p (filter q (all_numbers n))
least_found zero q p = refl
least_found (suc n) q p =
    ap (λ found. found_or found n (q n && p n)) (least_found n q p)
    ∙ one_at p n (find p (filter q (all_numbers n))) (q n)
    ∙ sym (ap (find p) (filter-append q (all_numbers n) (n ∷ []))
    ∙ find-append p (filter q (all_numbers n)) (filter q (n ∷ [])))

pub winner_found : (w : Walk) (g : ℕ) → winner w g ≡ find (is_wanted w) (names_in w.entries g)
unfolding winner
winner_found w g = least_found (walk_count w) (λ e. group_of w.entries e == g) (is_wanted w)

-- ---- what is known of a name

-- one that passes, before others
with_head : (q : ℕ → Bool) (P : ℕ → Type 0) (x : ℕ) (ys : List ℕ) → P x → q x ≡ true
    → ((i : ℕ) → i < length ys → P (get_or ys i 0) × (q (get_or ys i 0) ≡ true))
    → (i : ℕ) → i < length (x ∷ ys) → P (get_or (x ∷ ys) i 0) × (q (get_or (x ∷ ys) i 0) ≡ true)
with_head q P x ys here passes rest zero l = (here, passes)
with_head q P x ys here passes rest (suc i) l = rest i (omega (arith, l))

filtered : (q : ℕ → Bool) (P : ℕ → Type 0) (xs : List ℕ)
    → ((i : ℕ) → i < length xs → P (get_or xs i 0))
    → (i : ℕ) → i < length (filter q xs) → P (get_or (filter q xs) i 0)
    × (q (get_or (filter q xs) i 0) ≡ true)
filtered q P [] each = λ i l. absurd (omega (arith, l))
filtered q P (x ∷ xs) each =
    cond_both (q x) (x ∷ filter q xs) (filter q xs) (λ ys. (i : ℕ) → i < length ys
    → P (get_or ys i 0) × (q (get_or ys i 0) ≡ true))
    (λ passes. with_head q P x (filter q xs) (each zero (omega arith)) passes
    (filtered q P xs (λ i l. each (suc i) (omega (arith, l)))))
    (λ _. filtered q P xs (λ i l. each (suc i) (omega (arith, l))))

numbers_within : (n i : ℕ) → i < length (all_numbers n) → get_or (all_numbers n) i 0 < n
numbers_within n i l =
    let within : i < n = omega (arith, l, count_numbers n) in
    subst (λ k. k < n) (sym (number_at n i within)) within

-- it is an entry, and of the group
pub name_within : (w : Walk) (g : ℕ) (names : List ℕ) (i : ℕ) → names ≡ names_in w.entries g
    → i < length names → get_or names i 0 < walk_count w
name_within w g names i is l =
    subst (λ ns. get_or ns i 0 < walk_count w) (sym is)
    (filtered (λ e. group_of w.entries e == g) (λ k. k < walk_count w) (all_numbers (walk_count w))
    (numbers_within (walk_count w)) i (subst (λ ns. i < length ns) is l)).0

pub name_of_group : (w : Walk) (g : ℕ) (names : List ℕ) (i : ℕ) → names ≡ names_in w.entries g
    → i < length names → group_of w.entries (get_or names i 0) ≡ g
name_of_group w g names i is l =
    subst (λ ns. group_of w.entries (get_or ns i 0) ≡ g) (sym is)
    (eqb-true _ g (filtered (λ e. group_of w.entries e == g) (λ k. k < walk_count w)
    (all_numbers (walk_count w)) (numbers_within (walk_count w)) i
    (subst (λ ns. i < length ns) is l)).1)

-- a name of an entry that isn't skipped isn't either
pub name_left : (w : Walk) (e : ℕ) (names : List ℕ) (i : ℕ)
    → names ≡ names_in w.entries (group_of w.entries e) → i < length names → e < walk_count w
    → is_skipped w e ≡ false → is_skipped w (get_or names i 0) ≡ false
name_left w e names i is l m left =
    left_too w e (get_or names i 0) m (name_within w (group_of w.entries e) names i is l)
    (name_of_group w (group_of w.entries e) names i is l) left

-- ---- the names, one after the other

wins_if : (b : Bool) (e : ℕ) (index : Option ℕ)
    → is_some (if b then record { name = Some e; decided = index } else no_winner).name ≡ b
wins_if true e index = refl
wins_if false e index = refl

-- an entry wins just where it is wanted
pub wins_where : (w : Walk) (e : ℕ) (found : Winner) → found ≡ winner_if w e
    → is_some found.name ≡ is_wanted w e
wins_where w e found is = ap (λ (f : Winner). is_some f.name) is
    ∙ wins_if (is_wanted w e) e (deciding w e)

first_passes : (p : ℕ → Bool) (x : ℕ) (xs : List ℕ) → p x ≡ true → find p (x ∷ xs) ≡ Some x
first_passes p x xs h = ap (λ b. cond b (Some x) (find p xs)) h

first_fails : (p : ℕ → Bool) (x : ℕ) (xs : List ℕ) → p x ≡ false → find p (x ∷ xs) ≡ find p xs
first_fails p x xs h = ap (λ b. cond b (Some x) (find p xs)) h

-- a name that is wanted, where none before it is
pub name_wins : (w : Walk) (g : ℕ) (names : List ℕ) (i : ℕ) (found : Winner)
    → names ≡ names_in w.entries g → i < length names
    → find (is_wanted w) (drop i names) ≡ find (is_wanted w) names
    → found ≡ winner_if w (get_or names i 0) → is_some found.name ≡ true → IsWinner w g found
name_wins w g names i found is l so_far shown some =
    let k = get_or names i 0 in
    let wanted_here : is_wanted w k ≡ true = sym (wins_where w k found shown) ∙ some in
    let wins : winner w g ≡ Some k =
    winner_found w g ∙ ap (find (is_wanted w)) (sym is) ∙ sym so_far
    ∙ at_drop_more (find (is_wanted w)) names i 0 l
    ∙ first_passes (is_wanted w) k (drop (i + 1) names) wanted_here in
    let here : found ≡ record { name = Some k; decided = deciding w k } =
    shown ∙ ap (λ b. if b then record { name = Some k; decided = deciding w k } else no_winner)
    wanted_here in
    record {
      name_is = ap (λ (f : Winner). f.name) here ∙ sym wins;
      decided_is = ap (λ (f : Winner). f.decided) here
          ∙ sym (ap (option_and_then (deciding w)) wins);
    }

-- one name more that isn't
pub name_fails : (w : Walk) (names : List ℕ) (i : ℕ) (found : Winner) → i < length names
    → find (is_wanted w) (drop i names) ≡ find (is_wanted w) names
    → found ≡ winner_if w (get_or names i 0) → is_some found.name ≡ false
    → find (is_wanted w) (drop (i + 1) names) ≡ find (is_wanted w) names
name_fails w names i found l so_far shown none =
    sym (at_drop_more (find (is_wanted w)) names i 0 l
    ∙ first_fails (is_wanted w) (get_or names i 0) (drop (i + 1) names)
    (sym (wins_where w (get_or names i 0) found shown) ∙ none)) ∙ so_far

-- no name is
pub no_name_wins : (w : Walk) (g : ℕ) (names : List ℕ) (i : ℕ) → names ≡ names_in w.entries g
    → length names ≤ i
    → find (is_wanted w) (drop i names) ≡ find (is_wanted w) names → IsWinner w g no_winner
no_name_wins w g names i is l so_far =
    let none : winner w g ≡ None = winner_found w g ∙ ap (find (is_wanted w)) (sym is) ∙ sym so_far
    ∙ at_drop_all (find (is_wanted w)) names i l in
    record { name_is = sym none; decided_is = sym (ap (option_and_then (deciding w)) none) }

-- ---- what is kept of groups

pub empty_winners : (w : Walk) (kept : BTreeMap ℕ Winner) → kept.entries ≡ []
    → AreWinnersKept w kept
empty_winners w kept none = λ g.
    subst (λ (o : Option Winner). IfSome o (IsWinner w g))
    (sym (ap (λ es. lookup (is_at_key (nat_cmp g)) es) none)) tt

pub more_winners : (w : Walk) (old new : BTreeMap ℕ Winner) (group : ℕ) (winner : Winner)
    → AreWinnersKept w old → IsWinner w group winner
    → ((g : ℕ) → get nat_cmp new g ≡ (if group == g then Some winner else get nat_cmp old g))
    → AreWinnersKept w new
more_winners w old new group winner before is keeps = λ g.
    subst (λ (o : Option Winner). IfSome o (IsWinner w g)) (sym (keeps g))
    (elim (cases_eq group g) [
      | inl same ↦
          subst (λ b. IfSome (if b then Some winner else get nat_cmp old g) (IsWinner w g))
          (sym (eq-eqb group g same))
          (subst (λ k. IsWinner w k winner) same is)
      | inr differ ↦ subst
          (λ b. IfSome (if b then Some winner else get nat_cmp old g) (IsWinner w g))
          (sym (ne_eqb group g differ)) (before g)
    ])
