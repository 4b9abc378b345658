-- The groups of entries are those of their inodes.
use Rattle.std.proofs.Common.{◌≡◌, ◌∙◌, ap, ap₂, sym, refl, subst, ℕ, zero, suc, ◌+◌, ◌<◌, ◌≤◌}
use Rattle.std.proofs.Common.{◌==◌, Bool, true, false, cond, ◌||◌, List, [], ◌∷◌, ◌++◌, length, map}
use Rattle.std.proofs.Common.{take, filter, get_or, arith, ◌⊎◌, inl, inr, length-append}
use Rattle.std.specs.List.{list_any, position_or_len}
use Rattle.std.specs.Prelude.{Some}
use Rattle.std.proofs.lemmas.Bool.{eq-eqb, cases_lt, true≢false}
use Rattle.std.proofs.lemmas.Bool.Decides.{nat_tests}
use Rattle.std.proofs.lemmas.List.{get_or-map, length-map, length-take-le, take_more, take_all}
use Rattle.std.proofs.lemmas.List.Elements.{filter-append}
use Rattle.find_records.specs.Record.{Record}
use Rattle.label_base.specs.Bounded.{all_numbers, least_below}
use Rattle.find_records.specs.Places.{no_record}
use Rattle.tree_model.specs.Links.{inode_of, same_inode}
use Rattle.tree_model.specs.Groups.{inode_added, inodes_behind, inodes_of, group_of, groups_in}
use Rattle.tree_model.specs.Groups.{names_in}
use Rattle.tree_model.specs.GroupLists.{groups_behind, group_names, names_at, next_at}
use Rattle.label_base.proofs.BoundedLemmas.{least_is}
use Rattle.tree_model.proofs.NameLemmas.{IsNext, next_is, names_step}
use Rattle.tree_model.proofs.NumberingLemmas.{Inode}

-- the first place that passes
abbrev first_place : (Inode → Bool) → List Inode → ℕ
first_place p xs = position_or_len p xs

pub by_head : (p : Inode → Bool) (x : Inode) (xs : List Inode) (b : Bool) → p x ≡ b
    → first_place p (x ∷ xs) ≡ cond b 0 (1 + first_place p xs)
by_head p x xs true e = rw e refl
by_head p x xs false e = rw e refl

any_head : (p : Inode → Bool) (x : Inode) (xs : List Inode) (v : Bool) → list_any p (x ∷ xs) ≡ v
    → p x ≡ false → list_any p xs ≡ v
any_head p x xs v h e = sym (ap (λ t. t || list_any p xs) e) ∙ h

not_any : (p : Inode → Bool) (x : Inode) (xs : List Inode) → list_any p (x ∷ xs) ≡ false
    → p x ≡ true → ⊥
not_any p x xs h e = true≢false (sym (ap (λ t. t || list_any p xs) e) ∙ h)

any_case : (p : Inode → Bool) (x : Inode) (xs : List Inode) (b : Bool) → p x ≡ b
    → list_any p (x ∷ xs) ≡ true → (list_any p xs ≡ true → first_place p xs < length xs)
    → first_place p (x ∷ xs) < length (x ∷ xs)
any_case p x xs true e h f = omega (arith, by_head p x xs true e)
any_case p x xs false e h f = omega (arith, by_head p x xs false e, f (any_head p x xs true h e))

any_place : (p : Inode → Bool) (xs : List Inode) → list_any p xs ≡ true
    → first_place p xs < length xs
any_place p [] h = cc
any_place p (x ∷ xs) h = any_case p x xs (p x) refl h (any_place p xs)

no_case : (p : Inode → Bool) (x : Inode) (xs : List Inode) (b : Bool) → p x ≡ b
    → list_any p (x ∷ xs) ≡ false → (list_any p xs ≡ false → first_place p xs ≡ length xs)
    → first_place p (x ∷ xs) ≡ length (x ∷ xs)
no_case p x xs true e h f = absurd (not_any p x xs h e)
no_case p x xs false e h f = omega (arith, by_head p x xs false e, f (any_head p x xs false h e))

pub no_place : (p : Inode → Bool) (xs : List Inode) → list_any p xs ≡ false
    → first_place p xs ≡ length xs
no_place p [] h = refl
no_place p (x ∷ xs) h = no_case p x xs (p x) refl h (no_place p xs)

-- a place stays where more come behind
before_case : (p : Inode → Bool) (x : Inode) (xs ys : List Inode) (b : Bool) → p x ≡ b
    → first_place p (x ∷ xs) < length (x ∷ xs)
    → (first_place p xs < length xs → first_place p (xs ++ ys) ≡ first_place p xs)
    → first_place p (x ∷ (xs ++ ys)) ≡ first_place p (x ∷ xs)
before_case p x xs ys true e h f = by_head p x (xs ++ ys) true e ∙ sym (by_head p x xs true e)
before_case p x xs ys false e h f =
    let own : first_place p (x ∷ xs) ≡ 1 + first_place p xs = by_head p x xs false e in
    by_head p x (xs ++ ys) false e ∙ ap (λ k. 1 + k) (f (omega (arith, h, own))) ∙ sym own

place_before : (p : Inode → Bool) (xs ys : List Inode) → first_place p xs < length xs
    → first_place p (xs ++ ys) ≡ first_place p xs
place_before p [] ys h = absurd (omega (arith, h))
place_before p (x ∷ xs) ys h = before_case p x xs ys (p x) refl h (place_before p xs ys)

last_case : (p : Inode → Bool) (x : Inode) (xs : List Inode) (y : Inode) (b : Bool) → p x ≡ b
    → list_any p (x ∷ xs) ≡ false
    → (list_any p xs ≡ false → first_place p (xs ++ y ∷ []) ≡ length xs)
    → first_place p (x ∷ (xs ++ y ∷ [])) ≡ length (x ∷ xs)
last_case p x xs y true e h f = absurd (not_any p x xs h e)
last_case p x xs y false e h f =
    omega (arith, by_head p x (xs ++ y ∷ []) false e, f (any_head p x xs false h e))

place_last : (p : Inode → Bool) (xs : List Inode) (y : Inode) → list_any p xs ≡ false → p y ≡ true
    → first_place p (xs ++ y ∷ []) ≡ length xs
place_last p [] y h e = by_head p y [] true e
place_last p (x ∷ xs) y h e = last_case p x xs y (p x) refl h (λ n. place_last p xs y n e)

pub same_itself : (i : Inode) → same_inode i i ≡ true
same_itself i = grind (arith, nat_tests)

-- where an inode stands once it is there
place_with : (seen : List Inode) (i : Inode) (b : Bool) → list_any (same_inode i) seen ≡ b
    → first_place (same_inode i) (cond b seen (seen ++ i ∷ [])) ≡ first_place (same_inode i) seen
place_with seen i true h = refl
place_with seen i false h = place_last (same_inode i) seen i h (same_itself i)
    ∙ sym (no_place (same_inode i) seen h)

within_with : (seen : List Inode) (i : Inode) (b : Bool) → list_any (same_inode i) seen ≡ b
    → first_place (same_inode i) (cond b seen (seen ++ i ∷ []))
    < length (cond b seen (seen ++ i ∷ []))
within_with seen i true h = any_place (same_inode i) seen h
within_with seen i false h =
    omega (arith, place_last (same_inode i) seen i h (same_itself i), length-append seen (i ∷ []))

other_with : (seen : List Inode) (i j : Inode) (b : Bool) → first_place (same_inode j) seen
    < length seen → first_place (same_inode j) (cond b seen (seen ++ i ∷ [])) ≡ first_place
    (same_inode j) seen
other_with seen i j true h = refl
other_with seen i j false h = place_before (same_inode j) seen (i ∷ []) h

longer_with : (seen : List Inode) (i : Inode) (b : Bool)
    → length seen ≤ length (cond b seen (seen ++ i ∷ []))
longer_with seen i true = omega arith
longer_with seen i false = omega (arith, length-append seen (i ∷ []))

longer : (inodes seen : List Inode) → length seen ≤ length (inodes_behind seen inodes)
longer [] seen = omega arith
longer (i ∷ is) seen =
    let one : length seen ≤ length (inode_added seen i) =
    longer_with seen i (list_any (same_inode i) seen) in
    omega (arith, one, longer is (inode_added seen i))

-- a place stays
place_stays : (inodes seen : List Inode) (j : Inode) → first_place (same_inode j) seen < length seen
    → first_place (same_inode j) (inodes_behind seen inodes) ≡ first_place (same_inode j) seen
place_stays [] seen j h = refl
place_stays (i ∷ is) seen j h =
    let own : first_place (same_inode j) (inode_added seen i) ≡ first_place (same_inode j) seen =
    other_with seen i j (list_any (same_inode i) seen) h in
    let more : length seen ≤ length (inode_added seen i) =
    longer_with seen i (list_any (same_inode i) seen) in
    place_stays is (inode_added seen i) j (omega (arith, own, more, h)) ∙ own

head_place : (is seen : List Inode) (i : Inode) → first_place (same_inode i) seen ≡ first_place
    (same_inode i) (inodes_behind (inode_added seen i) is)
head_place is seen i =
    sym (place_stays is (inode_added seen i) i
    (within_with seen i (list_any (same_inode i) seen) refl)
    ∙ place_with seen i (list_any (same_inode i) seen) refl)

pub groups_are : (inodes seen : List Inode) → groups_behind seen inodes
    ≡ map (λ i. position_or_len (same_inode i) (inodes_behind seen inodes)) inodes
groups_are [] seen = refl
groups_are (i ∷ is) seen =
    ap₂ (λ g gs. g ∷ gs) (head_place is seen i) (groups_are is (inode_added seen i))

head_within : (is seen : List Inode) (i : Inode) → first_place (same_inode i) seen
    < length (inodes_behind (inode_added seen i) is)
head_within is seen i =
    let low : first_place (same_inode i) (inode_added seen i) < length (inode_added seen i) =
    within_with seen i (list_any (same_inode i) seen) refl in
    let own : first_place (same_inode i) (inode_added seen i) ≡ first_place (same_inode i) seen =
    place_with seen i (list_any (same_inode i) seen) refl in
    omega (arith, low, own, longer is (inode_added seen i))

pub groups_within : (inodes seen : List Inode) (e : ℕ) → e < length inodes
    → get_or (groups_behind seen inodes) e 0 < length (inodes_behind seen inodes)
groups_within [] seen e h = absurd (omega (arith, h))
groups_within (i ∷ is) seen zero h = head_within is seen i
groups_within (i ∷ is) seen (suc e) h = groups_within is (inode_added seen i) e (omega (arith, h))

-- each group has an entry
pub record HasName (groups : List ℕ) (g : ℕ) : Type 0 where
  pub name : ℕ
  pub within : name < length groups
  pub own : get_or groups name 0 ≡ g

name_behind : (x g : ℕ) (xs : List ℕ) → HasName xs g → HasName (x ∷ xs) g
name_behind x g xs h = record { name = suc h.name; within = omega (arith, h.within); own = h.own }

pub name_here : (is seen : List Inode) (i : Inode) (g : ℕ) (b : Bool) → list_any (same_inode i) seen
    ≡ b → g < length (cond b seen (seen ++ i ∷ []))
    → (g < length seen) ⊎ (first_place (same_inode i) seen ≡ g)
name_here is seen i g true h l = inl l
name_here is seen i g false h l = elim (cases_lt g (length seen)) [
  | inl lt ↦ inl lt
  | inr ge ↦ inr (omega (arith, no_place (same_inode i) seen h, length-append seen (i ∷ []), l, ge))
]

pub has_name : (inodes seen : List Inode) (g : ℕ) → g < length (inodes_behind seen inodes)
    → (g < length seen) ⊎ HasName (groups_behind seen inodes) g
has_name [] seen g l = inl l
has_name (i ∷ is) seen g l = elim (has_name is (inode_added seen i) g l) [
  | inr h ↦ inr
      (name_behind (first_place (same_inode i) seen) g (groups_behind (inode_added seen i) is) h)
  | inl low ↦ elim (name_here is seen i g (list_any (same_inode i) seen) refl low) [
    | inl lt ↦ inl lt
    | inr own ↦ inr (record { name = zero; within = omega arith; own = own })
  ]
]

-- the groups of entries
unfoldable pub groups_of : List Record → List ℕ
groups_of entries = groups_behind [] (map inode_of entries)

pub length_behind : (inodes seen : List Inode) → length (groups_behind seen inodes) ≡ length inodes
length_behind [] seen = refl
length_behind (i ∷ is) seen = ap suc (length_behind is (inode_added seen i))

pub count_groups : (entries : List Record) → length (groups_of entries) ≡ length entries
unfolding groups_of
count_groups entries = length_behind (map inode_of entries) [] ∙ length-map entries inode_of

pub group_at : (entries : List Record) (e : ℕ) → e < length entries → get_or (groups_of entries) e 0
    ≡ group_of entries e
unfolding groups_of
group_at entries e l =
    let place = λ (i : Inode). position_or_len (same_inode i) (inodes_of entries) in
    let w : e < length (map inode_of entries) = omega (arith, l, length-map entries inode_of) in
    ap (λ gs. get_or gs e 0) (groups_are (map inode_of entries) [])
    ∙ get_or-map place (map inode_of entries) e (0, 0) 0 w
    ∙ ap place (get_or-map inode_of entries e no_record (0, 0) l)

pub group_inside : (entries : List Record) (e : ℕ) → e < length entries
    → get_or (groups_of entries) e 0 < groups_in entries
unfolding groups_of
group_inside entries e l =
    groups_within (map inode_of entries) [] e (omega (arith, l, length-map entries inode_of))

pub group_named : (entries : List Record) (g : ℕ) → g < groups_in entries
    → HasName (groups_of entries) g
unfolding groups_of
group_named entries g l = elim (has_name (map inode_of entries) [] g l)
    [ inl low ↦ absurd (omega (arith, low)) | inr h ↦ h ]

-- entries that pass one of two tests that agree
pub filter_agree : (n : ℕ) (p q : ℕ → Bool) → ((k : ℕ) → k < n → p k ≡ q k)
    → filter p (all_numbers n) ≡ filter q (all_numbers n)
filter_agree zero p q h = refl
filter_agree (suc n) p q h =
    filter-append p (all_numbers n) (n ∷ [])
    ∙ ap₂ (λ a b. a ++ cond b (n ∷ []) []) (filter_agree n p q (λ k l. h k (omega (arith, l))))
    (h n (omega arith))
    ∙ sym (filter-append q (all_numbers n) (n ∷ []))

cons_case : (b : Bool) (p : ℕ) (xs more : List ℕ) → cond b (p ∷ (xs ++ more)) (xs ++ more)
    ≡ cond b (p ∷ xs) xs ++ more
cons_case true p xs more = refl
cons_case false p xs more = refl

names_push : (xs : List ℕ) (p y g : ℕ) → group_names p (xs ++ y ∷ []) g ≡ group_names p xs g
    ++ cond (y == g) ((p + length xs) ∷ []) []
names_push [] p y g = let e : p ≡ p + 0 = omega arith in ap (λ k. cond (y == g) (k ∷ []) []) e
names_push (x ∷ xs) p y g =
    let e : suc p + length xs ≡ p + suc (length xs) = omega arith in
    let more = names_push xs (suc p) y g
    ∙ ap (λ k. group_names (suc p) xs g ++ cond (y == g) (k ∷ []) []) e in
    ap (λ ns. cond (x == g) (p ∷ ns) ns) more
    ∙ cons_case (x == g) p (group_names (suc p) xs g)
    (cond (y == g) ((p + suc (length xs)) ∷ []) [])

names_front : (groups : List ℕ) (g n : ℕ) → n ≤ length groups → group_names 0 (take n groups) g
    ≡ filter (λ e. get_or groups e 0 == g) (all_numbers n)
names_front groups g zero l = refl
names_front groups g (suc n) l =
    let w : n < length groups = omega (arith, l) in
    let s : suc n ≡ n + 1 = omega arith in
    let len : 0 + length (take n groups) ≡ n =
    omega (arith, length-take-le n groups (omega (arith, l))) in
    ap (λ k. group_names 0 (take k groups) g) s
    ∙ ap (λ xs. group_names 0 xs g) (take_more groups n 0 w)
    ∙ names_push (take n groups) 0 (get_or groups n 0) g
    ∙ ap₂ (λ a k. a ++ cond (get_or groups n 0 == g) (k ∷ []) [])
    (names_front groups g n (omega (arith, l))) len
    ∙ sym (filter-append (λ e. get_or groups e 0 == g) (all_numbers n) (n ∷ []))

pub names_filter : (groups : List ℕ) (g : ℕ)
    → names_at groups 0 g ≡ filter (λ e. get_or groups e 0 == g) (all_numbers (length groups))
unfolding names_at
names_filter groups g =
    ap (λ xs. group_names 0 xs g) (sym (take_all (length groups) groups (omega arith)))
    ∙ names_front groups g (length groups) (omega arith)

pub names_are : (entries : List Record) (g : ℕ) → names_at (groups_of entries) 0 g
    ≡ names_in entries g
names_are entries g =
    names_filter (groups_of entries) g
    ∙ ap (λ n. filter (λ e. get_or (groups_of entries) e 0 == g) (all_numbers n))
    (count_groups entries)
    ∙ filter_agree (length entries) (λ e. get_or (groups_of entries) e 0 == g)
    (λ e. group_of entries e == g) (λ k l. ap (λ x. x == g) (group_at entries k l))

-- the first entry of a group
pub record IsFirst (entries : List Record) (g first : ℕ) : Type 0 where
  pub some : 0 < length (names_in entries g)
  pub head : get_or (names_in entries g) 0 0 ≡ first
  pub within : first < length entries
  pub own : group_of entries first ≡ g
  pub least : least_below (length entries) (λ e. group_of entries e == g) ≡ Some first

first_of : (entries : List Record) (g n : ℕ) → IsNext (groups_of entries) 0 g n
    → HasName (groups_of entries) g → IsFirst entries g n
first_of entries g n r h =
    let groups = groups_of entries in
    let count = count_groups entries in
    let seen : n ≤ h.name = elim (cases_lt h.name n) [
      | inl lt ↦ absurd
          (true≢false (sym (eq-eqb (get_or groups h.name 0) g h.own)
          ∙ r.before h.name (omega arith) lt))
      | inr ge ↦ ge
    ] in
    let low : n < length groups = omega (arith, seen, h.within) in
    let inside : n < length entries = omega (arith, low, count) in
    let own = r.found low in
    let names : names_in entries g ≡ n ∷ names_at groups (n + 1) g =
    sym (names_are entries g) ∙ r.names ∙ names_step groups n g low
    ∙ ap (λ b. cond b (n ∷ names_at groups (n + 1) g) (names_at groups (n + 1) g))
    (eq-eqb (get_or groups n 0) g own) in
    let group : group_of entries n ≡ g = sym (group_at entries n inside) ∙ own in
    record {
      some = subst (λ xs. 0 < length xs) (sym names) (omega arith);
      head = ap (λ xs. get_or xs 0 0) names;
      within = inside;
      own = group;
      least = least_is (length entries) (λ e. group_of entries e == g) n inside
          (eq-eqb (group_of entries n) g group)
          (λ j l. ap (λ x. x == g) (sym (group_at entries j (omega (arith, l, inside))))
          ∙ r.before j (omega arith) l);
    }

pub has_first : (entries : List Record) (g : ℕ) → g < groups_in entries
    → IsFirst entries g (next_at (groups_of entries) 0 g)
has_first entries g l = first_of entries g (next_at (groups_of entries) 0 g)
    (next_is (groups_of entries) 0 g (omega arith)) (group_named entries g l)
