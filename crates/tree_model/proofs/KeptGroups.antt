-- What a tree keeps of its groups tells what they are.
use Rattle.std.proofs.Common.{◌≡◌, ◌∙◌, ap, ap₂, sym, refl, subst, ℕ, zero, suc, ◌+◌, ◌-◌, ◌<◌, ◌≤◌}
use Rattle.std.proofs.Common.{◌^◌, Bool, List, [], ◌∷◌, ◌++◌, length, map, take, drop, get_or}
use Rattle.std.proofs.Common.{arith, inl, inr, ◌⊎◌, append_assoc, append-nil, length-append}
use Rattle.std.proofs.lemmas.Bool.{cases_lt}
use Rattle.find_records.specs.Record.{Record}
use Rattle.std.specs.Prelude.{Some, slice_get}
use Rattle.tree_model.specs.Counted.{AreClosedFrom}
use Rattle.tree_model.specs.Extents.{EndsFrom, entry_at}
use Rattle.tree_model.specs.GroupLists.{AreGroups, AreGroupStarts, groups_behind, names_at}
use Rattle.tree_model.specs.GroupLists.{names_below}
use Rattle.tree_model.specs.Groups.{group_of, groups_in, label_at, label_in, names_in}
use Rattle.tree_model.specs.Kept.{ListsGroups}
use Rattle.tree_model.specs.Links.{inode_of}
use Rattle.tree_model.specs.ExtentEnds.{AreClosed}
use Rattle.tree_model.specs.Tree.{ByPath}
use Rattle.tree_model.proofs.ExtentsByEnds.{closed_is}
use Rattle.tree_model.proofs.GroupLemmas.{count_groups, group_at, group_inside, groups_of}
use Rattle.tree_model.proofs.GroupLemmas.{has_first, names_are}
use Rattle.tree_model.proofs.KnownLemmas.{entry_is}

own : (entries : List Record) → groups_of entries ≡ groups_behind [] (map inode_of entries)
unfolding groups_of
own entries = refl

pub sized : (entries : List Record) (groups : List ℕ)
    → groups ≡ groups_behind [] (map inode_of entries) → length groups ≡ length entries
sized entries groups h = ap length h ∙ ap length (sym (own entries)) ∙ count_groups entries

pub are_groups : (entries : List Record) (groups : List ℕ) (count : ℕ) → length entries < 2 ^ 32
    → groups ≡ groups_behind [] (map inode_of entries) → count ≡ groups_in entries
    → AreGroups count groups
are_groups entries groups count few h n =
    let same : groups_of entries ≡ groups = own entries ∙ sym h in
    record {
      inside = λ e l. (
          let w : e < length entries = omega (arith, l, sized entries groups h) in
          let t : get_or groups e 0 < groups_in entries =
          subst (λ gs. get_or gs e 0 < groups_in entries) same (group_inside entries e w) in
          omega (arith, t, n));
      few = omega (arith, few, sized entries groups h);
    }

pub lists_groups : (entries : List Record) (groups names starts : List ℕ) (count : ℕ)
    → groups ≡ groups_behind [] (map inode_of entries) → count ≡ groups_in entries
    → names ≡ names_below groups count
    → AreGroupStarts groups (count + 1) starts → ListsGroups entries groups names starts
lists_groups entries groups names starts count h n names_is starts_is = record {
  groups_are = h;
  names_are = names_is ∙ ap (names_below groups) n;
  starts_are = subst (λ k. AreGroupStarts groups (k + 1) starts) n starts_is;
}

-- which extents hold all their groups
pub groups_held : (entries : List Record) (ends groups : List ℕ) (closed : List Bool)
    → ByPath entries → EndsFrom 0 entries ends → groups ≡ groups_behind [] (map inode_of entries)
    → AreClosed groups ends 0 closed → AreClosedFrom entries (length entries) closed
groups_held entries ends groups closed up kept h shown =
    let same : groups_of entries ≡ groups = own entries ∙ sym h in
    let flags : AreClosed (groups_of entries) ends 0 closed =
    subst (λ gs. AreClosed gs ends 0 closed) (sym same) shown in
    record {
      sized = flags.sized ∙ count_groups entries;
      before = λ d a l. flags.flags d (omega arith) (omega (arith, l, count_groups entries))
          ∙ closed_is entries up ends kept d l;
      behind = λ d a l. absurd (omega (arith, a, l));
    }

-- the entries of one group stand together among those of all
record StandsAt (names front own : List ℕ) : Type 0 where
  pub rest : List ℕ
  pub whole : names ≡ front ++ (own ++ rest)

stands_case : (groups : List ℕ) (g k : ℕ) → (g < k) ⊎ (k ≤ g) → g < suc k
    → (g < k → StandsAt (names_below groups k) (names_below groups g) (names_at groups 0 g))
    → StandsAt (names_below groups (suc k)) (names_below groups g) (names_at groups 0 g)
stands_case groups g k (inl lt) l f =
    let r = f lt in
    record {
      rest = r.rest ++ names_at groups 0 k;
      whole = ap (λ xs. xs ++ names_at groups 0 k) r.whole
          ∙ append_assoc (names_below groups g) (names_at groups 0 g ++ r.rest)
          (names_at groups 0 k)
          ∙ ap (λ xs. names_below groups g ++ xs)
          (append_assoc (names_at groups 0 g) r.rest (names_at groups 0 k));
    }
stands_case groups g k (inr ge) l f =
    let same : g ≡ k = omega (arith, l, ge) in
    subst (λ j. StandsAt (names_below groups (suc j)) (names_below groups g) (names_at groups 0 g))
    same
    (record {
      rest = [];
      whole = ap (λ xs. names_below groups g ++ xs)
          (sym (append-nil (names_at groups 0 g)));
    })

stands : (groups : List ℕ) (g k : ℕ) → g < k
    → StandsAt (names_below groups k) (names_below groups g) (names_at groups 0 g)
stands groups g zero l = absurd (omega (arith, l))
stands groups g (suc k) l = stands_case groups g k (cases_lt g k) l (λ m. stands groups g k m)

drop_front : (xs ys : List ℕ) → drop (length xs) (xs ++ ys) ≡ ys
drop_front [] ys = refl
drop_front (x ∷ xs) ys = drop_front xs ys

take_front : (xs ys : List ℕ) → take (length xs) (xs ++ ys) ≡ xs
take_front [] ys = refl
take_front (x ∷ xs) ys = ap (λ zs. x ∷ zs) (take_front xs ys)

pub part_of : (groups names starts : List ℕ) (count g from to : ℕ)
    → names ≡ names_below groups count → AreGroupStarts groups (count + 1) starts → g < count
    → from ≡ get_or starts g 0 → to ≡ get_or starts (g + 1) 0
    → (from ≤ to) × (to ≤ length names) × (take (to - from) (drop from names) ≡ names_at groups 0 g)
part_of groups names starts count g from to h r l f t =
    let front = names_below groups g in
    let mine = names_at groups 0 g in
    let s = stands groups g count l in
    let begin : from ≡ length front = f ∙ r.begins g (omega (arith, l)) in
    let next : g + 1 ≡ suc g = omega arith in
    let end : to ≡ length front + length mine = t ∙ r.begins (g + 1) (omega (arith, l))
    ∙ ap (λ k. length (names_below groups k)) next ∙ length-append front mine in
    let whole : names ≡ front ++ (mine ++ s.rest) = h ∙ s.whole in
    let size : to - from ≡ length mine = omega (arith, begin, end) in
    let long : length names ≡ length front + (length mine + length s.rest) = ap length whole
    ∙ length-append front (mine ++ s.rest)
    ∙ ap (λ k. length front + k) (length-append mine s.rest) in (
      omega (arith, begin, end),
      omega (arith, end, long),
      ap₂ (λ a b. take a (drop b names)) size begin
          ∙ ap (λ xs. take (length mine) (drop (length front) xs)) whole
          ∙ ap (take (length mine)) (drop_front front (mine ++ s.rest))
          ∙ take_front mine s.rest,
    )

module _ (entries : List Record) (groups names starts : List ℕ)
    (kept : ListsGroups entries groups names starts) where
  same_groups : groups_of entries ≡ groups
  same_groups = own entries ∙ sym kept.groups_are

  pub group_shown : (e : ℕ) → e < length entries → get_or groups e 0 ≡ group_of entries e
  group_shown e l = ap (λ gs. get_or gs e 0) (sym same_groups) ∙ group_at entries e l

  pub group_count : length groups ≡ length entries
  group_count = sized entries groups kept.groups_are

  pub starts_count : length starts ≡ groups_in entries + 1
  starts_count = kept.starts_are.sized

  pub names_seen : (g from to : ℕ) → g < groups_in entries → from ≡ get_or starts g 0
      → to ≡ get_or starts (g + 1) 0
      → (from ≤ to) × (to ≤ length names)
      × (take (to - from) (drop from names) ≡ names_in entries g)
  names_seen g from to l f t =
      let p = part_of groups names starts (groups_in entries) g from to kept.names_are
      kept.starts_are l f t in
      (p.0, p.1, p.2 ∙ ap (λ gs. names_at gs 0 g) (sym same_groups) ∙ names_are entries g)

  pub group_within : (e : ℕ) → e < length entries → group_of entries e < groups_in entries
  group_within e l = subst (λ k. k < groups_in entries) (group_at entries e l)
      (group_inside entries e l)

-- where a group stands among the names
pub record IsPart (entries : List Record) (names starts : List ℕ) (g : ℕ) : Type 0 where
  pub known : g + 1 < length starts
  pub order : get_or starts g 0 ≤ get_or starts (g + 1) 0
  pub within : get_or starts (g + 1) 0 ≤ length names
  pub value : take (get_or starts (g + 1) 0 - get_or starts g 0) (drop (get_or starts g 0) names)
      ≡ names_in entries g

pub part_here : (entries : List Record) (groups names starts : List ℕ)
    → ListsGroups entries groups names starts → (g : ℕ) → g < groups_in entries
    → IsPart entries names starts g
part_here entries groups names starts kept g l =
    let t = names_seen entries groups names starts kept g (get_or starts g 0)
    (get_or starts (g + 1) 0) l refl refl in
    record {
      known = omega (arith, l, kept.starts_are.sized);
      order = t.0;
      within = t.1;
      value = t.2;
    }

pub part_is : (entries now : List Record) (groups names starts names' starts' : List ℕ)
    → entries ≡ now → names' ≡ names → starts' ≡ starts
    → ListsGroups entries groups names starts → (g : ℕ) → g < groups_in now
    → IsPart now names' starts' g
part_is entries now groups names starts names' starts' same n s kept g l =
    subst (λ ns. IsPart now ns starts' g) (sym n)
    (subst (λ ss. IsPart now names ss g) (sym s)
    (part_here now groups names starts (subst (λ es. ListsGroups es groups names starts) same kept)
    g l))

-- the label of the first entry is the group's
pub label_first : (entries : List Record) (g first : ℕ) (names : List ℕ) (r : Record)
    → g < groups_in entries → names ≡ names_in entries g → first ≡ get_or names 0 0
    → slice_get entries first ≡ Some r
    → r.label ≡ label_in entries g
label_first entries g first names r l n f h =
    let i = has_first entries g l in
    let same = f ∙ ap (λ xs. get_or xs 0 0) n ∙ i.head in
    ap (λ e. e.label) (sym (entry_is entries first r h)) ∙ ap (λ k. (entry_at entries k).label) same
    ∙ sym (ap (label_at entries) i.least)

pub first_within : (entries : List Record) (g first : ℕ) (names : List ℕ) → g < groups_in entries
    → names ≡ names_in entries g → first ≡ get_or names 0 0 → first < length entries
first_within entries g first names l n f =
    let i = has_first entries g l in
    subst (λ k. k < length entries) (sym (f ∙ ap (λ xs. get_or xs 0 0) n ∙ i.head)) i.within

pub names_some : (entries : List Record) (g : ℕ) (names : List ℕ) → g < groups_in entries
    → names ≡ names_in entries g → 0 < length names
names_some entries g names l n = subst (λ xs. 0 < length xs) (sym n) (has_first entries g l).some
