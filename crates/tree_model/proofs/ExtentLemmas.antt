-- Extents, among entries in the order of their paths.
use Rattle.std.proofs.Common.{◌≡◌, ◌∙◌, ap, sym, refl, subst, ℕ, ◌+◌, ◌-◌, ◌<◌, ◌≤◌, ◌⊎◌, inl, inr}
use Rattle.std.proofs.Common.{true, false, List, length, arith}
use Rattle.std.proofs.lemmas.Bool.{cases_lt, false_from_ne_true, lt-ltb, le-ltb, le-leb, lt-leb}
use Rattle.std.specs.Prelude.{Option, Some, None, ◌&&◌, nat_le, nat_lt}
use Rattle.std.specs.declared.cmp.Ordering.TheVariants.{Less}
use Rattle.label_base.specs.Bounded.{greatest_below}
use Rattle.file_paths.specs.Path.{Path, path_cmp}
use Rattle.label_base.proofs.BoundedLemmas.{IsGreatest, greatest_is, greatest_shown}
use Rattle.find_records.specs.Record.{Record}
use Rattle.tree_model.specs.Extents.{entry_at, extent_of, in_extent, one_behind}
use Rattle.find_records.specs.Places.{no_record}
use Rattle.tree_model.specs.Tree.{ByPath}
use Rattle.tree_model.proofs.AboveLemmas.{below_itself, below_chain, between, not_before}

same_or_less : (a b : ℕ) → a ≤ b → (a < b) ⊎ (a ≡ b)
same_or_less a b l = elim (cases_lt a b) [ inl lt ↦ inl lt | inr ge ↦ inr (omega arith) ]

-- what the extent of an entry is
pub record HasExtent (entries : List Record) (d c : ℕ) : Type 0 where
  pub behind : d < c
  pub within : c ≤ length entries
  pub last_in : in_extent entries d (c - 1) ≡ true
  pub next_out : c < length entries → in_extent entries d c ≡ false

module _ (entries : List Record) (up : ByPath entries) where
  path_at : ℕ → Path
  path_at e = (entry_at entries e).path

  pub rise : (i j : ℕ) → i < j → j < length entries → path_cmp (entry_at entries i).path
      (entry_at entries j).path ≡ Less
  rise i j l m = up i j no_record l m

  pub in_itself : (d : ℕ) → in_extent entries d d ≡ true
  in_itself d = below_itself (entry_at entries d).path

  pub in_chain : (d x e : ℕ) → in_extent entries d x ≡ true → in_extent entries x e ≡ true
      → in_extent entries d e ≡ true
  in_chain d x e h k = below_chain (entry_at entries e).path (entry_at entries x).path
      (entry_at entries d).path k h

  -- what is at or below an entry does not stand before it
  pub in_behind : (d e : ℕ) → d < length entries → in_extent entries d e ≡ true → d ≤ e
  in_behind d e l h = elim (cases_lt e d) [
    | inl before ↦ absurd (not_before (entry_at entries e).path (entry_at entries d).path h
        (rise e d before l))
    | inr ge ↦ ge
  ]

  -- extents are those by their ends
  pub in_between : (d x e : ℕ) → d ≤ x → x ≤ e → e < length entries → in_extent entries d e ≡ true
      → in_extent entries d x ≡ true
  in_between d x e a b l h = elim (same_or_less d x a) [
    | inr same ↦ subst (λ k. in_extent entries d k ≡ true) same (in_itself d)
    | inl dx ↦ elim (same_or_less x e b) [
      | inr same ↦ subst (λ k. in_extent entries d k ≡ true) (sym same) h
      | inl xe ↦ between (entry_at entries d).path (entry_at entries x).path
          (entry_at entries e).path h (rise d x dx (omega (arith, xe, l))) (rise x e xe l)
    ]
  ]

  pub extent_is : (d c : ℕ) → HasExtent entries d c → extent_of entries d ≡ c
  extent_is d c h =
      let n = length entries in
      let out : (j : ℕ) → c - 1 < j → j < n → in_extent entries d j ≡ false =
      λ j a b. false_from_ne_true (in_extent entries d j) (λ t.
      let cn : c < n ⊎ n ≤ c = cases_lt c n in
      let l : c < n = omega (arith, a, b, h.behind) in
      let there = in_between d c j (omega (arith, h.behind)) (omega (arith, a, h.behind)) b t in
      let not_there = h.next_out l in cc) in
      ap one_behind (greatest_is n (in_extent entries d) (c - 1) (omega (arith, h.behind, h.within))
      h.last_in out) ∙ omega (arith, h.behind)

  has_greatest : (d : ℕ) (found : Option ℕ) → d < length entries
      → IsGreatest (length entries) (in_extent entries d) found
      → HasExtent entries d (one_behind found)
  has_greatest d None l g = (let none = g d l in let some = in_itself d in absurd cc)
  has_greatest d (Some e) l g =
      let same : e + 1 - 1 ≡ e = omega arith in
      let upto = in_behind d e l g.1 in
      record {
        behind = omega (arith, upto);
        within = omega (arith, g.0);
        last_in = subst (λ k. in_extent entries d k ≡ true) (sym same) g.1;
        next_out = λ m. g.2 (e + 1) (omega arith) m;
      }

  pub extent_shown : (d : ℕ) → d < length entries → HasExtent entries d (extent_of entries d)
  extent_shown d l = has_greatest d (greatest_below (length entries) (in_extent entries d)) l
      (greatest_shown (length entries) (in_extent entries d))

  -- the entries from d up to its extent are those at or below d
  pub extent_has : (d e : ℕ) → d < length entries → d ≤ e → e < extent_of entries d
      → in_extent entries d e ≡ true
  extent_has d e l a b =
      let t = extent_shown d l in
      in_between d e (extent_of entries d - 1) a (omega (arith, b))
      (omega (arith, t.behind, t.within)) t.last_in

  pub has_extent : (d e : ℕ) → d < length entries → e < length entries → in_extent entries d e
      ≡ true → (d ≤ e) × (e < extent_of entries d)
  has_extent d e l m h =
      let t = extent_shown d l in
      let from = in_behind d e l h in (
        from,
        elim (cases_lt e (extent_of entries d)) [
          | inl lt ↦ lt
          | inr ge ↦ (let there = in_between d (extent_of entries d) e (omega (arith, t.behind)) ge
              m h in let not_there = t.next_out (omega (arith, ge, m)) in absurd cc)
        ],
      )

  pub extent_law : (d e : ℕ) → d < length entries → e < length entries → in_extent entries d e
      ≡ (nat_le d e && nat_lt e (extent_of entries d))
  extent_law d e l m = elim (cases_lt e d) [
    | inl before ↦ false_from_ne_true (in_extent entries d e) (λ h. let from = in_behind d e l h in
        omega (arith, from, before))
        ∙ sym (ap (λ b. b && nat_lt e (extent_of entries d)) (lt-leb d e before))
    | inr from ↦ elim (cases_lt e (extent_of entries d)) [
      | inl lt ↦ extent_has d e l from lt
          ∙ (let p = le-leb d e from in let q = lt-ltb e (extent_of entries d) lt in rw (p, q) refl)
      | inr ge ↦ false_from_ne_true (in_extent entries d e) (λ h. let t = has_extent d e l m h in
          omega (arith, t.1, ge))
          ∙ (let p = le-leb d e from in let q = le-ltb e (extent_of entries d) ge in rw (p, q) refl)
    ]
  ]
