-- The extents that are kept, found from the last entry to the first.
use Rattle.std.proofs.Common.{◌≡◌, sym, subst, ℕ, ◌+◌, ◌-◌, ◌<◌, ◌≤◌, true, false, List, length}
use Rattle.std.proofs.Common.{get_or, arith}
use Rattle.std.proofs.lemmas.Bool.{lt-ltb, ltb-true}
use Rattle.tree_model.proofs.FindLemmas.{and_false}
use Rattle.std.specs.Prelude.{nat_lt}
use Rattle.std.specs.Cmp.{first_so, second_so}
use Rattle.find_records.specs.Record.{Record}
use Rattle.tree_model.specs.Extents.{EndsFrom, extent_of, in_extent, is_inside}
use Rattle.tree_model.specs.Tree.{ByPath}
use Rattle.tree_model.proofs.ExtentLemmas.{HasExtent, extent_is, extent_shown, in_chain, in_itself}

-- the entries from d to c are at or below d
pub record Inside (entries : List Record) (d c : ℕ) : Type 0 where
  pub behind : d < c
  pub within : c ≤ length entries
  pub last_in : in_extent entries d (c - 1) ≡ true

module _ (entries : List Record) (up : ByPath entries) (ends : List ℕ) (d : ℕ)
    (known : d < length entries) (kept : EndsFrom (d + 1) entries ends) where
  pub inside_first : Inside entries d (d + 1)
  inside_first = record {
    behind = omega arith;
    within = omega (arith, known);
    last_in = (let same : d + 1 - 1 ≡ d = omega arith in
        subst (λ k. in_extent entries d k ≡ true) (sym same) (in_itself entries up d));
  }

  shown : (c : ℕ) → Inside entries d c → is_inside entries d c ≡ true
      → HasExtent entries c (get_or ends c 0)
  shown c i h =
      let l = ltb-true c (length entries)
      (first_so (nat_lt c (length entries)) (in_extent entries d c) h) in
      subst (HasExtent entries c) (sym (kept.each c (omega (arith, i.behind)) l))
      (extent_shown entries up c l)

  pub inside_next : (c : ℕ) → Inside entries d c → is_inside entries d c ≡ true
      → Inside entries d (get_or ends c 0)
  inside_next c i h =
      let t = shown c i h in
      record {
        behind = omega (arith, i.behind, t.behind);
        within = t.within;
        last_in = in_chain entries up d c (get_or ends c 0 - 1)
            (second_so (nat_lt c (length entries)) (in_extent entries d c) h) t.last_in;
      }

  pub inside_more : (c : ℕ) → Inside entries d c → is_inside entries d c ≡ true
      → length entries - get_or ends c 0 < length entries - c
  inside_more c i h = let t = shown c i h in omega (arith, t.behind, t.within)

  pub inside_end : (c : ℕ) → Inside entries d c → is_inside entries d c ≡ false
      → c ≡ extent_of entries d
  inside_end c i h = sym (extent_is entries up d c (record {
    behind = i.behind;
    within = i.within;
    last_in = i.last_in;
    next_out = λ l. and_false (nat_lt c (length entries)) (in_extent entries d c)
        (lt-ltb c (length entries) l) h;
  }))
