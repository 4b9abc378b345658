-- Which extents hold an entry whose group lacks a name.
use Rattle.std.proofs.Common.{◌≡◌, ◌∙◌, ap, ap₂, sym, refl, subst, ℕ, ◌+◌, ◌<◌, ◌≤◌, Bool, true}
use Rattle.std.proofs.Common.{false, List, length, set, get_or, arith, ◌⊎◌, inl, inr}
use Rattle.std.proofs.Common.{get_or-set_same, get_or-set_other, length-set}
use Rattle.std.specs.Prelude.{◌&&◌, ◌||◌, nat_le, nat_lt, Option, Some, None, is_some, slice_get}
use Rattle.std.proofs.lemmas.Bool.{cases_eq}
use Rattle.std.proofs.lemmas.List.{length-map}
use Rattle.label_base.specs.Bounded.{all_numbers, implies}
use Rattle.label_base.proofs.BoundedLemmas.{all_from, all_same, count_numbers}
use Rattle.find_records.specs.Record.{Record}
use Rattle.tree_model.specs.Counted.{AreClosedFrom, AreUncounted, names_flags}
use Rattle.tree_model.specs.Extents.{EndsFrom, entry_at, extent_of, in_extent, is_directory}
use Rattle.tree_model.specs.Groups.{closed_at, group_of, has_more_names, holds_groups, holds_names}
use Rattle.tree_model.specs.Groups.{is_met, names_in}
use Rattle.tree_model.specs.LiveLists.{IsDead}
use Rattle.tree_model.specs.Tree.{ByPath}
use Rattle.tree_model.proofs.ClosedLemmas.{implied}
use Rattle.tree_model.proofs.DeadLemmas.{whole_is}
use Rattle.tree_model.proofs.ExtentLemmas.{extent_law}
use Rattle.tree_model.proofs.KnownLemmas.{entry_is}
use Rattle.tree_model.proofs.LabelledLemmas.{mapped_at}
use Rattle.tree_model.proofs.LiveLemmas.{dead_behind, dead_here}

-- ---- whether any entry has a link count

neither : (a b : Bool) → (a || b) ≡ false → (a ≡ false) × (b ≡ false)
neither true b h = cc
neither false b h = (refl, h)

none_is : (links : Option ℕ) → is_some links ≡ false → links ≡ None
none_is None h = refl
none_is (Some n) h = cc

pub none_next : (entries : List Record) (e : ℕ) (r : Record) (before after : Bool)
    → slice_get entries e ≡ Some r → after ≡ (before || is_some r.links)
    → (before ≡ false → (k : ℕ) → k < e → (entry_at entries k).links ≡ None) → after ≡ false
    → (k : ℕ) → k < e + 1 → (entry_at entries k).links ≡ None
none_next entries e r before after at same h lacks k l =
    let p = neither before (is_some r.links) (sym same ∙ lacks) in
    elim (cases_eq k e) [
      | inl here ↦ ap (λ i. (entry_at entries i).links) here
          ∙ ap (λ x. x.links) (entry_is entries e r at) ∙ none_is r.links p.1
      | inr other ↦ h p.0 k (omega (arith, l, other))
    ]

-- ---- the next entry whose group lacks a name

pub flags_count : (entries : List Record) → length (names_flags entries) ≡ length entries
flags_count entries = length-map (all_numbers (length entries)) (has_more_names entries)
    ∙ count_numbers (length entries)

flag_at : (entries : List Record) (e : ℕ) → e < length entries
    → get_or (names_flags entries) e false ≡ has_more_names entries e
flag_at entries e l = mapped_at (has_more_names entries) (length entries) e false l

pub lacking_here : (entries : List Record) (e : ℕ) (has : Bool) → has ≡ has_more_names entries e
    → e < length entries → has ≡ false → IsDead (names_flags entries) e e
lacking_here entries e has same l lacks =
    dead_here (names_flags entries) e (omega (arith, l, flags_count entries))
    (flag_at entries e l ∙ sym same ∙ lacks)

pub lacking_behind : (entries : List Record) (e next : ℕ) (has : Bool)
    → has ≡ has_more_names entries e → e < length entries → has ≡ true
    → IsDead (names_flags entries) (e + 1) next → IsDead (names_flags entries) e next
lacking_behind entries e next has same l holds r =
    dead_behind (names_flags entries) e next (flag_at entries e l ∙ sym same ∙ holds) r

pub lacking_end : (entries : List Record) (n : ℕ) → n ≡ length entries
    → IsDead (names_flags entries) n n
lacking_end entries n h = record {
  low = omega arith;
  high = omega (arith, h, flags_count entries);
  lives = λ k a b. absurd (omega (arith, a, b));
  dies = λ l. absurd (omega (arith, l, h, flags_count entries));
}

-- ---- the flags of extents

module _ (entries : List Record) (up : ByPath entries) (ends : List ℕ)
    (kept : EndsFrom 0 entries ends) where
  -- the extent ends before the next entry whose group lacks a name
  names_held : (d next : ℕ) → d < length entries → IsDead (names_flags entries) d next
      → nat_le (get_or ends d 0) next ≡ holds_names entries d
  names_held d next l r =
      let end : get_or ends d 0 ≡ extent_of entries d = kept.each d (omega arith) l in
      whole_is entries (names_flags entries) d (get_or ends d 0) next (flags_count entries) end
      (λ e m. extent_law entries up d e l m ∙ ap (λ k. nat_le d e && nat_lt e k) (sym end)) r
      ∙ all_same (length entries)
      (λ e. implies (in_extent entries d e) (get_or (names_flags entries) e false))
      (λ e. implies (in_extent entries d e) (has_more_names entries e))
      (λ e m. ap (implies (in_extent entries d e)) (flag_at entries e m))

  put_case : (e next d : ℕ) (closed : List Bool) (flag : Bool) → e < length entries
      → IsDead (names_flags entries) e next
      → flag ≡ (get_or closed e false && nat_le (get_or ends e 0) next)
      → AreClosedFrom entries (e + 1) closed → e ≤ d → d < length entries → (d ≡ e) ⊎ (d ≡ e → ⊥)
      → get_or (set closed e flag) d false ≡ closed_at entries d
  put_case e next d closed flag l r f c low high (inl same) =
      subst (λ i. get_or (set closed e flag) i false ≡ closed_at entries i) (sym same)
      (get_or-set_same closed e flag false (omega (arith, l, c.sized)) ∙ f
      ∙ ap₂ (λ a b. a && b) (c.before e (omega arith) l) (names_held e next l r))
  put_case e next d closed flag l r f c low high (inr other) =
      get_or-set_other closed e d flag false other ∙ c.behind d (omega (arith, low, other)) high

  pub closed_put : (e next : ℕ) (closed : List Bool) (flag : Bool) → e < length entries
      → IsDead (names_flags entries) e next
      → flag ≡ (get_or closed e false && nat_le (get_or ends e 0) next)
      → AreClosedFrom entries (e + 1) closed → AreClosedFrom entries e (set closed e flag)
  closed_put e next closed flag l r f c = record {
    sized = length-set closed e flag ∙ c.sized;
    before = λ d a b. (let other : d ≡ e → ⊥ = λ same. omega (arith, a, same) in
        get_or-set_other closed e d flag false other ∙ c.before d (omega (arith, a)) b);
    behind = λ d a b. put_case e next d closed flag l r f c a b (cases_eq d e);
  }

-- where no entry has a link count, all names are there
met_none : (directory : Bool) (links : Option ℕ) (names : ℕ) → links ≡ None
    → (directory || is_met links names) ≡ true
met_none true links names h = refl
met_none false links names h = ap (λ o. is_met o names) h

names_there : (entries : List Record) (d : ℕ) → AreUncounted entries → holds_names entries d ≡ true
names_there entries d lacks =
    all_from (length entries) (λ e. implies (in_extent entries d e) (has_more_names entries e))
    (λ e l. implied (in_extent entries d e) (has_more_names entries e)
    (λ inside. met_none (is_directory entries e) (entry_at entries e).links
    (length (names_in entries (group_of entries e))) (lacks e l)))

and_yes : (a b : Bool) → b ≡ true → a ≡ (a && b)
and_yes true b h = sym h
and_yes false b h = refl

pub uncounted_closed : (entries : List Record) (closed : List Bool) → AreUncounted entries
    → AreClosedFrom entries (length entries) closed → AreClosedFrom entries 0 closed
uncounted_closed entries closed lacks c = record {
  sized = c.sized;
  before = λ d a b. absurd (omega (arith, a));
  behind = λ d a b. c.before d b b ∙ and_yes (holds_groups entries d) (holds_names entries d)
      (names_there entries d lacks);
}
