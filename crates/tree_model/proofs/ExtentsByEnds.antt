-- The extents of entries are those by their ends, and what holds of these holds of them.
use Rattle.std.proofs.Common.{◌≡◌, ◌∙◌, ap, ap₂, sym, refl, subst, ℕ, ◌-◌, ◌<◌, ◌≤◌, ◌^◌, ◌==◌}
use Rattle.std.proofs.Common.{◌||◌, Bool, true, false, not, List, length, get_or, arith}
use Rattle.std.specs.Prelude.{◌&&◌, nat_le, nat_lt}
use Rattle.std.proofs.lemmas.Bool.{and_parts, eq-eqb, eqb-true, and_from}
use Rattle.label_base.specs.Bounded.{all_below, implies}
use Rattle.label_base.proofs.BoundedLemmas.{all_from, all_same}
use Rattle.find_records.specs.Record.{Record}
use Rattle.tree_model.specs.Extents.{EndsFrom, entry_at, extent_of, in_extent}
use Rattle.tree_model.specs.Groups.{group_of, holds_groups}
use Rattle.tree_model.specs.LiveLists.{stays_in}
use Rattle.tree_model.specs.ExtentEnds.{AreEnds, closed_extent, within_extent}
use Rattle.tree_model.specs.Selection.{admits, stays_on}
use Rattle.tree_model.specs.Tree.{ByPath}
use Rattle.tree_model.specs.declared.choice.Choice.{Choice}
use Rattle.tree_model.proofs.ClosedLemmas.{implied}
use Rattle.tree_model.proofs.ExtentLemmas.{extent_has, extent_law, extent_shown, has_extent}
use Rattle.tree_model.proofs.ExtentLemmas.{in_chain, in_itself}
use Rattle.tree_model.proofs.GroupLemmas.{groups_of, group_at, count_groups}
use Rattle.tree_model.proofs.MarkLemmas.{and_true}

module _ (entries : List Record) (up : ByPath entries) (ends : List ℕ)
    (kept : EndsFrom 0 entries ends) where
  end_is : (d : ℕ) → d < length entries → get_or ends d 0 ≡ extent_of entries d
  end_is d l = kept.each d (omega arith) l

  nested : (d c : ℕ) → d < length entries → d ≤ c → c < extent_of entries d
      → extent_of entries c ≤ extent_of entries d
  nested d c l a b =
      let t = extent_shown entries up d l in
      let s = extent_shown entries up c (omega (arith, b, t.within)) in
      let there = extent_has entries up d c l a b in
      let last = has_extent entries up d (extent_of entries c - 1) l
      (omega (arith, s.behind, s.within))
      (in_chain entries up d c (extent_of entries c - 1) there s.last_in) in
      omega (arith, last.1, s.behind)

  pub ends_runs : length entries < 2 ^ 32 → AreEnds ends
  ends_runs few = record {
    few = omega (arith, few, kept.count);
    behind = λ d l. (let w : d < length entries = omega (arith, l, kept.count) in
        let t = extent_shown entries up d w in omega (arith, t.behind, end_is d w));
    within = λ d l. (let w : d < length entries = omega (arith, l, kept.count) in
        let t = extent_shown entries up d w in omega (arith, t.within, end_is d w, kept.count));
    nested = λ d c l a b. (
        let w : d < length entries = omega (arith, l, kept.count) in
        let t = extent_shown entries up d w in
        let e = end_is d w in
        let v : c < length entries = omega (arith, t.within, e, b) in
        let n = nested d c w a (omega (arith, e, b)) in
        omega (arith, n, e, end_is c v));
  }

  pub run_is : (d e : ℕ) → d < length entries → e < length entries
      → within_extent ends d e ≡ in_extent entries d e
  run_is d e l m = ap (λ k. nat_le d e && nat_lt e k) (end_is d l)
      ∙ sym (extent_law entries up d e l m)

  abbrev pub device_at : ℕ → ℕ
  device_at e = (entry_at entries e).device

  pub stays_is : (o e : ℕ) → o < length entries → e < length entries → stays_in ends device_at o e
      ≡ stays_on entries o e
  stays_is o e l m =
      ap (λ n. all_below n
      (λ a. implies (within_extent ends o a && within_extent ends a e)
      ((entry_at entries a).device == (entry_at entries o).device))) kept.count
      ∙ all_same (length entries)
      (λ a. implies (within_extent ends o a && within_extent ends a e)
      ((entry_at entries a).device == (entry_at entries o).device))
      (λ a. implies (in_extent entries o a && in_extent entries a e)
      ((entry_at entries a).device == (entry_at entries o).device))
      (λ a w. ap₂ (λ p q. implies (p && q)
      ((entry_at entries a).device == (entry_at entries o).device)) (run_is o a l w)
      (run_is a e w m))

  -- an entry stays on its own device
  stays_itself : (o : ℕ) → o < length entries → stays_on entries o o ≡ true
  stays_itself o l =
      all_from (length entries)
      (λ a. implies (in_extent entries o a && in_extent entries a o)
      ((entry_at entries a).device == (entry_at entries o).device))
      (λ a w. implied (in_extent entries o a && in_extent entries a o)
      ((entry_at entries a).device == (entry_at entries o).device)
      (λ h. let p = and_parts (in_extent entries o a) (in_extent entries a o) h in
      let from = (has_extent entries up o a l w p.0).0 in
      let upto = (has_extent entries up a o w l p.1).0 in
      let same : a ≡ o = omega (arith, from, upto) in
      eq-eqb ((entry_at entries a).device) ((entry_at entries o).device)
      (ap (λ k. (entry_at entries k).device) same)))

  and_case : (a b v : Bool) → (b ≡ true → (a && v) ≡ true) → (a && (b && v)) ≡ b
  and_case a true v h = h refl
  and_case true false v h = refl
  and_case false false v h = refl

  or_case : (b : Bool) → (b || true) ≡ true
  or_case true = refl
  or_case false = refl

  -- without recursion an operand admits itself
  pub admits_one : (choice : Choice) (o e : ℕ) → o < length entries → choice.recurse ≡ false
      → (o == e) ≡ admits choice entries o e
  admits_one choice o e l r =
      sym (ap (λ b. in_extent entries o e
      && ((b || (o == e)) && (not choice.one_device || stays_on entries o e))) r
      ∙ and_case (in_extent entries o e) (o == e) (not choice.one_device || stays_on entries o e)
      (λ h. let same : o ≡ e = eqb-true o e h in
      and_from (in_extent entries o e) (not choice.one_device || stays_on entries o e)
      (subst (λ k. in_extent entries o k ≡ true) same (in_itself entries up o))
      (ap (λ b. not choice.one_device || b)
      (subst (λ k. stays_on entries o k ≡ true) same (stays_itself o l))
      ∙ or_case (not choice.one_device))))

  -- with recursion all in its extent
  pub admits_run : (choice : Choice) (o e : ℕ) → o < length entries → e < length entries
      → choice.recurse ≡ true → choice.one_device ≡ false → within_extent ends o e ≡ admits choice
      entries
      o e
  admits_run choice o e l m r d =
      run_is o e l m
      ∙ sym (ap₂ (λ a b. in_extent entries o e
      && ((a || (o == e)) && (not b || stays_on entries o e))) r d
      ∙ and_true (in_extent entries o e))

  -- on one device all in its extent that stay there
  pub admits_device : (choice : Choice) (o e : ℕ) → o < length entries → e < length entries
      → choice.recurse ≡ true → choice.one_device ≡ true
      → (within_extent ends o e && stays_in ends device_at o e) ≡ admits choice entries o e
  admits_device choice o e l m r d =
      ap₂ (λ a b. a && b) (run_is o e l m) (stays_is o e l m)
      ∙ sym (ap₂ (λ a b. in_extent entries o e
      && ((a || (o == e)) && (not b || stays_on entries o e))) r d)

  -- an extent that is closed by its end that holds all its groups
  pub closed_is : (d : ℕ) → d < length entries → closed_extent (groups_of entries) ends d
      ≡ holds_groups entries d
  closed_is d l =
      let groups = groups_of entries in
      ap (λ n. all_below n
      (λ e. implies (within_extent ends d e)
      (all_below n
      (λ x. implies (get_or groups x 0 == get_or groups e 0) (within_extent ends d x)))))
      (count_groups entries)
      ∙ all_same (length entries)
      (λ e. implies (within_extent ends d e)
      (all_below (length entries)
      (λ x. implies (get_or groups x 0 == get_or groups e 0) (within_extent ends d x))))
      (λ e. implies (in_extent entries d e)
      (all_below (length entries)
      (λ x. implies (group_of entries x == group_of entries e) (in_extent entries d x))))
      (λ e m. ap₂ (λ a b. implies a b) (run_is d e l m)
      (all_same (length entries)
      (λ x. implies (get_or groups x 0 == get_or groups e 0) (within_extent ends d x))
      (λ x. implies (group_of entries x == group_of entries e) (in_extent entries d x))
      (λ x w. ap₂ (λ a b. implies a b)
      (ap₂ (λ a b. a == b) (group_at entries x w) (group_at entries e m)) (run_is d x l w))))
