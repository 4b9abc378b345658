-- What is at or below a path stands together.
use Rattle.std.proofs.Common.{◌≡◌, ◌∙◌, ap, sym, refl, subst, ℕ, ◌<◌, ◌≤◌, Bool, true, false, List}
use Rattle.std.proofs.Common.{length, get_or, arith, inl, inr, ◌⊎◌}
use Rattle.std.specs.Prelude.{◌&&◌, nat_lt}
use Rattle.std.proofs.lemmas.Bool.{cases_eq, and_parts, ltb-true, true≢false, false_from_ne_true}
use borrow.Author.Tests.{lt-ltb}
use Rattle.std.specs.Ordering.{is_eq, ordering_reverse}
use Rattle.std.specs.declared.cmp.Ordering.{Ordering}
use Rattle.std.specs.declared.cmp.Ordering.TheVariants.{Less, Equal, Greater}
use Rattle.file_paths.specs.Path.{Path, at_or_below, path_cmp}
use Rattle.find_records.specs.Record.{Record}
use Rattle.tree_model.specs.Extents.{EndsFrom, entry_at, extent_of}
use Rattle.tree_model.specs.LiveLists.{IsCleared, IsFilled}
use Rattle.find_records.specs.Places.{no_record}
use Rattle.tree_model.specs.Tree.{ByPath, IsFrom}
use Rattle.tree_model.proofs.AboveLemmas.{below_chain, below_itself, between, not_before}
use Rattle.tree_model.proofs.ExtentLemmas.{extent_has, extent_shown}
use Rattle.tree_model.proofs.MarkLemmas.{IsClearedTo, cleared_all, cleared_more, cleared_none}
use Rattle.tree_model.proofs.HeadLemmas.{path_total}
use Rattle.tree_model.proofs.SameLemmas.{path_exact, same_path_is}

-- a path that isn't before another is that one, or the other is before it
not_less : (o r : Ordering) → r ≡ ordering_reverse o → (o ≡ Less → ⊥) → (o ≡ Equal) ⊎ (r ≡ Less)
not_less Less r e h = absurd (h refl)
not_less Equal r e h = inl refl
not_less Greater r e h = inr e

module _ (entries : List Record) (up : ByPath entries) (ends : List ℕ)
    (kept : EndsFrom 0 entries ends) (path : Path) where
  abbrev pub is_under : ℕ → Bool
  is_under e = at_or_below (entry_at entries e).path path

  pub under_none : (first : ℕ) (old : List Bool) → length old ≡ length entries
      → IsFrom path entries first → IsClearedTo is_under first old old
  under_none first old s r =
      cleared_none is_under first old
      (λ e l m. false_from_ne_true (is_under e)
      (λ h. not_before (entry_at entries e).path path h (r.before e l)))

  module _ (c : ℕ) (test : (nat_lt c (length entries) && is_under c) ≡ true) where
    pub under_within : c < length entries
    under_within =
        ltb-true c (length entries) (and_parts (nat_lt c (length entries)) (is_under c) test).0

    own_end : get_or ends c 0 ≡ extent_of entries c
    own_end = kept.each c (omega arith) under_within

    pub under_more : c < get_or ends c 0
    under_more = let t = extent_shown entries up c under_within in omega (arith, t.behind, own_end)

    pub under_upto : get_or ends c 0 ≤ length entries
    under_upto = let t = extent_shown entries up c under_within in omega (arith, t.within, own_end)

    pub under_step : (start old new : List Bool) → IsClearedTo is_under c start old
        → IsFilled c (get_or ends c 0) false old new → IsClearedTo is_under (get_or ends c 0) start
        new
    under_step start old new r s =
        cleared_more is_under c (get_or ends c 0) start old new
        (λ e a b. below_chain (entry_at entries e).path (entry_at entries c).path path
        (extent_has entries up c e under_within a (omega (arith, b, own_end)))
        (and_parts (nat_lt c (length entries)) (is_under c) test).1)
        r (omega (arith, under_more)) s

  -- an entry that isn't below ends the extent
  no_more : (c e : ℕ) → (path_cmp (entry_at entries c).path path ≡ Less → ⊥) → is_under c ≡ false
      → c < e → e < length entries → is_under e ≡ true → ⊥
  no_more c e h out a l t =
      elim (not_less (path_cmp (entry_at entries c).path path)
      (path_cmp path (entry_at entries c).path) (path_total.antisymm path (entry_at entries c).path)
      h) [
        | inl equal ↦ (
            let same : (entry_at entries c).path ≡ path =
            path_exact (entry_at entries c).path path (same_path_is (entry_at entries c).path path
            ∙ ap is_eq equal) in
            let there : is_under c ≡ true =
            subst (λ p. at_or_below (entry_at entries c).path p ≡ true)
            same (below_itself (entry_at entries c).path) in
            true≢false (sym there ∙ out))
        | inr less ↦ true≢false
            (sym (between path (entry_at entries c).path (entry_at entries e).path t less
            (up c e no_record a l)) ∙ out)
      ]

  pub under_all : (first c : ℕ) (start new : List Bool) → length start ≡ length entries
      → IsFrom path entries first → first ≤ c → (nat_lt c (length entries) && is_under c) ≡ false
      → IsClearedTo is_under c start new → IsCleared is_under start new
  under_all first c start new s from l test r =
      cleared_all is_under c start new r
      (λ e a m. false_from_ne_true (is_under e) (λ t.
      let w : c < length entries = omega (arith, a, m, s) in
      let out : is_under c ≡ false = sym (ap (λ b. b && is_under c) (lt-ltb c (length entries) w))
      ∙ test in
      elim (cases_eq e c) [
        | inl same ↦ true≢false (sym (subst (λ k. is_under k ≡ true) same t) ∙ out)
        | inr other ↦ no_more c e (λ h. from.behind c l w h) out (omega (arith, a, other))
            (omega (arith, m, s)) t
      ]))
