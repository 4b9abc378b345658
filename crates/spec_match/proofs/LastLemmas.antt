-- The last specification that fits, from the end.
use Rattle.std.proofs.Common.{◌≡◌, ◌∙◌, sym, refl, ap, ℕ, suc, zero, ◌+◌, ◌<◌, ◌≤◌, Bool, true}
use Rattle.std.proofs.Common.{false, cond, List, [], ◌∷◌, drop, length, get_or, map, arith}
use Rattle.std.proofs.lemmas.Bool.{and_from}
use Rattle.std.specs.Cmp.{first_so, second_so}
use Rattle.std.specs.Prelude.{filter, Option, Some, None, slice_get, option_and_then}
use Rattle.std.specs.List.{enumerate_from, last_or}
use Rattle.label_base.specs.Kind.{applies}
use Rattle.label_base.specs.declared.kind.Asked.{Asked}
use Rattle.pattern_match.proofs.Holding.{holds_shows}
use Rattle.spec_match.specs.LastMatch.{fits, Fits, Decides, last_index, last_match}
use Rattle.spec_match.specs.StatesFor.{spec_in}
use Rattle.spec_match.specs.declared.compiled_spec.CompiledSpec.{CompiledSpec}
use Rattle.spec_reader.specs.SpecValue.{SpecValue}

abbrev number_of : ℕ × SpecValue → ℕ
number_of pair = pair.0

passed_over : (v : Bool) (x : SpecValue) (kept : List SpecValue) (n : ℕ)
    (pairs : List (ℕ × SpecValue)) → cond v (x ∷ kept) kept ≡ []
    → (kept ≡ [] → map number_of pairs ≡ []) → map number_of (cond v ((n, x) ∷ pairs) pairs) ≡ []
passed_over true x kept n pairs h f = cc
passed_over false x kept n pairs h f = f h

by_first : (v : Bool) (n : ℕ) (x : SpecValue) (pairs : List (ℕ × SpecValue)) (o : Option ℕ) (k : ℕ)
    → ((o' : Option ℕ) → last_or o' (map number_of pairs) ≡ Some k)
    → last_or o (map number_of (cond v ((n, x) ∷ pairs) pairs)) ≡ Some k
by_first true n x pairs o k h = h (Some n)
by_first false n x pairs o k h = h o

by_member : (v : Bool) (x : SpecValue) (o : Option SpecValue) (kept : List SpecValue)
    (y : SpecValue) → ((o' : Option SpecValue) → last_or o' kept ≡ Some y)
    → last_or o (cond v (x ∷ kept) kept) ≡ Some y
by_member true x o kept y h = h (Some x)
by_member false x o kept y h = h o

rest_none : (v : Bool) (x : SpecValue) (kept : List SpecValue) → cond v (x ∷ kept) kept ≡ []
    → kept ≡ []
rest_none true x kept h = cc
rest_none false x kept h = h

pub at_place : (rules : List CompiledSpec) (i : ℕ) (d : CompiledSpec) → i < length rules
    → slice_get (map spec_in rules) i ≡ Some (spec_in (get_or rules i d))
at_place [] i d h = absurd (omega arith)
at_place (r ∷ rules) zero d h = refl
at_place (r ∷ rules) (suc i) d h = at_place rules i d (omega arith)

module _ (asked : Asked) (text : List ℕ) where
  abbrev numbered : ℕ → List SpecValue → List (ℕ × SpecValue)
  numbered n specs = filter (λ p. fits asked text p.1) (enumerate_from n specs)

  none_numbered : (n : ℕ) (specs : List SpecValue) → filter (fits asked text) specs ≡ []
      → map number_of (numbered n specs) ≡ []
  none_numbered n [] h = refl
  none_numbered n (s ∷ specs) h = passed_over (fits asked text s) s (filter (fits asked text) specs)
      n (numbered (n + 1) specs) h (none_numbered (n + 1) specs)

  index_from : (n : ℕ) (rules : List CompiledSpec) (i : ℕ) (d : CompiledSpec) (o : Option ℕ)
      → i < length rules
      → fits asked text (spec_in (get_or rules i d)) ≡ true
      → filter (fits asked text) (map spec_in (drop (suc i) rules)) ≡ []
      → last_or o (map number_of (numbered n (map spec_in rules))) ≡ Some (n + i)
  index_from n [] i d o h t e = absurd (omega arith)
  index_from n (r ∷ rules) zero d o h t e =
      ap (λ v. last_or o
      (map number_of (cond v ((n, spec_in r) ∷ numbered (n + 1) (map spec_in rules))
      (numbered (n + 1) (map spec_in rules))))) t
      ∙ ap (last_or (Some n)) (none_numbered (n + 1) (map spec_in rules) e)
      ∙ ap Some (omega arith)
  index_from n (r ∷ rules) (suc i) d o h t e =
      by_first (fits asked text (spec_in r)) n (spec_in r) (numbered (n + 1) (map spec_in rules)) o
      (n + suc i)
      (λ o'. index_from (n + 1) rules i d o' (omega arith) t e ∙ ap Some (omega arith))

  member_from : (rules : List CompiledSpec) (i : ℕ) (d : CompiledSpec) (o : Option SpecValue)
      → i < length rules
      → fits asked text (spec_in (get_or rules i d)) ≡ true
      → filter (fits asked text) (map spec_in (drop (suc i) rules)) ≡ []
      → last_or o (filter (fits asked text) (map spec_in rules)) ≡ Some (spec_in (get_or rules i d))
  member_from [] i d o h t e = absurd (omega arith)
  member_from (r ∷ rules) zero d o h t e = rw (t, e) refl
  member_from (r ∷ rules) (suc i) d o h t e =
      by_member (fits asked text (spec_in r)) (spec_in r) o
      (filter (fits asked text) (map spec_in rules)) (spec_in (get_or rules i d))
      (λ o'. member_from rules i d o' (omega arith) t e)

  -- a specification fits, and none behind it does
  pub found_index : (rules : List CompiledSpec) (i : ℕ) (d : CompiledSpec) → i < length rules
      → fits asked text (spec_in (get_or rules i d)) ≡ true
      → filter (fits asked text) (map spec_in (drop (suc i) rules)) ≡ []
      → Some i ≡ last_index asked text (map spec_in rules)
  unfolding last_index
  found_index rules i d h t e = sym (index_from 0 rules i d None h t e ∙ ap Some (omega arith))

  pub found_member : (rules : List CompiledSpec) (i : ℕ) (d : CompiledSpec) → i < length rules
      → fits asked text (spec_in (get_or rules i d)) ≡ true
      → filter (fits asked text) (map spec_in (drop (suc i) rules)) ≡ []
      → option_and_then (slice_get (map spec_in rules)) (Some i) ≡ last_match asked text
      (map spec_in rules)
  unfolding last_match
  found_member rules i d h t e = at_place rules i d h ∙ sym (member_from rules i d None h t e)

  -- no specification fits
  pub none_index : (rules : List CompiledSpec) → filter (fits asked text) (map spec_in rules) ≡ []
      → None ≡ last_index asked text (map spec_in rules)
  unfolding last_index
  none_index rules h = sym (ap (last_or None) (none_numbered 0 (map spec_in rules) h))

  pub none_member : (rules : List CompiledSpec) → filter (fits asked text) (map spec_in rules) ≡ []
      → option_and_then {T = ℕ} (slice_get (map spec_in rules)) None ≡ last_match asked text
      (map spec_in rules)
  unfolding last_match
  none_member rules h = sym (ap (last_or None) h)

  fit_shows : (spec : SpecValue) → (fits asked text spec ≡ true → Fits asked text spec)
      × (Fits asked text spec → fits asked text spec ≡ true)
  fit_shows spec = (
    λ e. (
      first_so (applies spec.kind asked) _ e,
      (holds_shows spec.pattern text).0
          (second_so (applies spec.kind asked) _ e),
    ),
    λ f. and_from (applies spec.kind asked) _ f.0 ((holds_shows spec.pattern text).1 f.1),
  )

  none_fits : (specs : List SpecValue) → filter (fits asked text) specs ≡ []
      → (j : ℕ) (spec : SpecValue) → slice_get specs j ≡ Some spec → Fits asked text spec → ⊥
  none_fits [] h j spec g f = cc
  none_fits (s ∷ specs) h zero spec g f =
      let e : s ≡ spec = cc in
      let t : fits asked text s ≡ true = ap (fits asked text) e ∙ (fit_shows spec).1 f in
      let n : cond true (s ∷ filter (fits asked text) specs) (filter (fits asked text) specs) ≡ [] =
      ap (λ v. cond v (s ∷ filter (fits asked text) specs) (filter (fits asked text) specs))
      (sym t) ∙ h in cc
  none_fits (s ∷ specs) h (suc j) spec g f =
      none_fits specs (rest_none (fits asked text s) s (filter (fits asked text) specs) h) j spec g
      f

  behind : (rules : List CompiledSpec) (i j : ℕ) (spec : SpecValue) → i ≤ j
      → slice_get (map spec_in rules) j ≡ Some spec → (k : ℕ)
      × (slice_get (map spec_in (drop i rules)) k ≡ Some spec)
  behind [] i j spec l h = cc
  behind (r ∷ rules) zero j spec l h = (j, h)
  behind (r ∷ rules) (suc i) zero spec l h = absurd (omega arith)
  behind (r ∷ rules) (suc i) (suc j) spec l h = behind rules i j spec (omega arith) h

  pub none_past : (rules : List CompiledSpec) (i j : ℕ) (spec : SpecValue) → i ≤ j
      → filter (fits asked text) (map spec_in (drop i rules)) ≡ [] → slice_get (map spec_in rules) j
      ≡ Some spec → Fits asked text spec → ⊥
  none_past rules i j spec l e g f = let b = behind rules i j spec l g in
      none_fits (map spec_in (drop i rules)) e b.0 spec b.1 f

  pub found_decides : (rules : List CompiledSpec) (i : ℕ) (d : CompiledSpec) → i < length rules
      → fits asked text (spec_in (get_or rules i d)) ≡ true
      → filter (fits asked text) (map spec_in (drop (suc i) rules)) ≡ []
      → Decides asked text (map spec_in rules) (Some i)
  found_decides rules i d h t e = record {
    spec = spec_in (get_or rules i d);
    found = at_place rules i d h;
    fits = (fit_shows (spec_in (get_or rules i d))).0 t;
    last = λ j later l g f. none_past rules (suc i) j later (omega (arith, l)) e g f;
  }

  pub none_decides : (rules : List CompiledSpec) → filter (fits asked text) (map spec_in rules) ≡ []
      → Decides asked text (map spec_in rules) None
  none_decides rules h = none_fits (map spec_in rules) h
