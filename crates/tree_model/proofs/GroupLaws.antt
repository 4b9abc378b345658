-- Groups are inodes, numbered by their first entries.
use Rattle.std.proofs.Common.{◌≡◌, ◌∙◌, ap, sym, refl, subst, ℕ, zero, suc, ◌<◌, ◌≤◌, Bool, true}
use Rattle.std.proofs.Common.{false, List, [], ◌∷◌, length, map, get_or, arith, ◌⊎◌, inl, inr}
use Rattle.std.specs.Prelude.{not}
use Rattle.std.specs.List.{list_any, position_or_len}
use Rattle.std.proofs.lemmas.List.{length-map}
use Rattle.std.proofs.lemmas.List.Sums.{prefix_len-le-length}
use Rattle.find_records.specs.Record.{Record}
use Rattle.tree_model.specs.Extents.{entry_at}
use Rattle.tree_model.specs.Groups.{inode_added, inodes_of, group_of, groups_in}
use Rattle.tree_model.specs.GroupLists.{groups_behind}
use Rattle.tree_model.specs.Laws.{GroupsAreInodes, HasEntryBefore, NameOneInode}
use Rattle.tree_model.specs.Links.{inode_of, same_inode}
use Rattle.tree_model.proofs.GroupLemmas.{by_head, count_groups, group_at, group_inside}
use Rattle.tree_model.proofs.GroupLemmas.{group_named, groups_of, name_here}
use Rattle.tree_model.proofs.FirstLemmas.{exact}
use Rattle.tree_model.proofs.NumberingLemmas.{Inode}

abbrev place : Inode → List Inode → ℕ
place i seen = position_or_len (same_inode i) seen

place_within : (i : Inode) (seen : List Inode) → place i seen ≤ length seen
place_within i seen = prefix_len-le-length (λ j. not (same_inode i j)) seen

-- ---- one group, one inode

read_case : (i x : Inode) (seen : List Inode) (b : Bool) → same_inode i x ≡ b
    → place i (x ∷ seen) < length (x ∷ seen)
    → (place i seen < length seen → get_or seen (place i seen) (0, 0) ≡ i)
    → get_or (x ∷ seen) (place i (x ∷ seen)) (0, 0) ≡ i
read_case i x seen true e l f =
    ap (λ k. get_or (x ∷ seen) k (0, 0)) (by_head (same_inode i) x seen true e) ∙ sym (exact i x e)
read_case i x seen false e l f =
    let own : place i (x ∷ seen) ≡ suc (place i seen) =
    omega (arith, by_head (same_inode i) x seen false e) in
    ap (λ k. get_or (x ∷ seen) k (0, 0)) own ∙ f (omega (arith, l, own))

-- the inode at its place
read_back : (i : Inode) (seen : List Inode) → place i seen < length seen
    → get_or seen (place i seen) (0, 0) ≡ i
read_back i [] l = absurd (omega (arith, l))
read_back i (x ∷ seen) l = read_case i x seen (same_inode i x) refl l (read_back i seen)

module _ (entries : List Record) where
  abbrev inode_at : ℕ → Inode
  inode_at e = inode_of (entry_at entries e)

  within : (e : ℕ) → e < length entries → group_of entries e < groups_in entries
  within e l = subst (λ g. g < groups_in entries) (group_at entries e l) (group_inside entries e l)

  one_inode : (a b : ℕ) → a < length entries → b < length entries
      → group_of entries a ≡ group_of entries b
      → NameOneInode (entry_at entries a) (entry_at entries b)
  one_inode a b l m h =
      let same : inode_at a ≡ inode_at b =
      sym (read_back (inode_at a) (inodes_of entries) (within a l))
      ∙ ap (λ g. get_or (inodes_of entries) g (0, 0)) h
      ∙ read_back (inode_at b) (inodes_of entries) (within b m) in
      record { device = ap (λ i. i.0) same; inode = ap (λ i. i.1) same }

  one_group : (a b : ℕ) → NameOneInode (entry_at entries a) (entry_at entries b)
      → group_of entries a ≡ group_of entries b
  one_group a b h = (λ i. place (h.device i, h.inode i) (inodes_of entries))

-- ---- lesser groups come before

record HasNameBefore (groups : List ℕ) (e g : ℕ) : Type 0 where
  name : ℕ
  before : name < e
  own : get_or groups name 0 ≡ g

before_behind : (x e g : ℕ) (xs : List ℕ) → HasNameBefore xs e g → HasNameBefore (x ∷ xs) (suc e) g
before_behind x e g xs h =
    record { name = suc h.name; before = omega (arith, h.before); own = h.own }

before_of : (inodes seen : List Inode) (e g : ℕ) → e < length inodes
    → g < get_or (groups_behind seen inodes) e 0
    → (g < length seen) ⊎ HasNameBefore (groups_behind seen inodes) e g
before_of [] seen e g l h = absurd (omega (arith, l))
before_of (i ∷ is) seen zero g l h = inl (omega (arith, h, place_within i seen))
before_of (i ∷ is) seen (suc e) g l h =
    elim (before_of is (inode_added seen i) e g (omega (arith, l)) h) [
      | inr b ↦ inr (before_behind (place i seen) e g (groups_behind (inode_added seen i) is) b)
      | inl low ↦ elim (name_here is seen i g (list_any (same_inode i) seen) refl low) [
        | inl lt ↦ inl lt
        | inr own ↦ inr (record { name = zero; before = omega arith; own = own })
      ]
    ]

module _ (entries : List Record) where
  named_before : (e g : ℕ) → e < length entries → g < get_or (groups_of entries) e 0
      → HasNameBefore (groups_of entries) e g
  unfolding groups_of
  named_before e g l h =
      elim (before_of (map inode_of entries) [] e g (omega (arith, l, length-map entries inode_of))
      h) [ inl low ↦ absurd (omega (arith, low)) | inr b ↦ b ]

  lesser_before : (e g : ℕ) → e < length entries → g < group_of entries e
      → HasEntryBefore entries e g
  lesser_before e g l h =
      let b = named_before e g l (subst (λ k. g < k) (sym (group_at entries e l)) h) in
      record {
        entry = b.name;
        before = b.before;
        own = sym
            (group_at entries b.name (omega (arith, l, b.before))) ∙ b.own;
      }

  some_entry : (g : ℕ) → g < groups_in entries → HasEntryBefore entries (length entries) g
  some_entry g l =
      let n = group_named entries g l in
      let known : n.name < length entries = omega (arith, n.within, count_groups entries) in
      record { entry = n.name; before = known; own = sym (group_at entries n.name known) ∙ n.own }

  pub groups_are_inodes : GroupsAreInodes entries
  groups_are_inodes = record {
    same = λ a b l m. (one_inode entries a b l m, one_group entries a b);
    within = within entries;
    some = some_entry;
    first = lesser_before;
  }
