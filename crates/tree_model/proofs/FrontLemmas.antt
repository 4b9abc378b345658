-- The nearest directory above a path, found by the paths above it.
use Rattle.std.proofs.Common.{◌≡◌, ◌∙◌, ap, sym, refl, subst, ℕ, suc, ◌<◌, ◌≤◌, inl, inr, Bool}
use Rattle.std.proofs.Common.{true, false, List, [], ◌∷◌, ◌++◌, length, arith}
use Rattle.std.proofs.lemmas.Bool.{cases_lt, lt-ltb, and_from, false_from_ne_true}
use Rattle.std.proofs.lemmas.Bool.Decides.{nat_tests}
use Rattle.std.proofs.lemmas.List.Quantifiers.{position-Some}
use Rattle.std.specs.Cmp.{second_so}
use Rattle.std.specs.Prelude.{Option, Some, None, is_some, ◌&&◌, nat_lt, if◌then◌else◌}
use Rattle.std.specs.declared.cmp.Ordering.TheVariants.{Less}
use Rattle.label_base.specs.Bounded.{greatest_below}
use Rattle.label_base.specs.Text.{same_bytes}
use Rattle.file_paths.specs.Path.{Path, at_or_below, path_cmp, strictly_below}
use Rattle.label_base.proofs.BoundedLemmas.{greatest_agree, greatest_is, greatest_none}
use Rattle.find_records.specs.Places.{no_record}
use Rattle.find_records.specs.Record.{Record}
use Rattle.tree_model.specs.Extents.{entry_at, is_directory}
use Rattle.tree_model.specs.Fronts.{IsOneBelow, directory_in, directory_of}
use Rattle.tree_model.specs.Tree.{ByPath, find_in, is_entry_at}
use Rattle.tree_model.proofs.AboveLemmas.{below_itself, not_before, rest_below, same_head}
use Rattle.tree_model.proofs.ExtentLemmas.{rise}
use Rattle.tree_model.proofs.FindLemmas.{found_where}
use Rattle.tree_model.proofs.HeadLemmas.{path_total}
use Rattle.tree_model.proofs.SameLemmas.{path_exact, path_same}

-- the nearest directory that the path lies below
abbrev pub nearest_above : List Record → Path → Option ℕ
nearest_above entries path =
    greatest_below (length entries)
    (λ d. is_directory entries d && strictly_below path (entry_at entries d).path)

-- ---- what lies above a path lies at or above the path without its last name

less_suc : (m n : ℕ) → nat_lt (suc m) (suc n) ≡ nat_lt m n
less_suc m n = grind (arith, nat_tests)

within : (v a b c : Bool) → (a && b) ≡ c → ((v && a) && b) ≡ (v && c)
within true a b c h = h
within false a b c h = refl

no_and : (v : Bool) → (v && false) ≡ false
no_and true = refl
no_and false = refl

no_and_then : (v w : Bool) → ((v && false) && w) ≡ false
no_and_then true w = refl
no_and_then false w = refl

strictly_is : (top : Path) (name : List ℕ) (q : Path) → strictly_below (top ++ name ∷ []) q
    ≡ at_or_below top q
strictly_is [] name [] = refl
strictly_is [] name (m ∷ []) = no_and (same_bytes m name && true)
strictly_is [] name (m ∷ k ∷ ks) =
    no_and_then (same_bytes m name) (nat_lt (suc (suc (length ks))) 1)
strictly_is (t ∷ ts) name [] = lt-ltb 0 (suc (length (ts ++ name ∷ []))) (omega arith)
strictly_is (t ∷ ts) name (m ∷ ms) =
    ap (λ b. (same_bytes m t && at_or_below (ts ++ name ∷ []) ms) && b)
    (less_suc (length ms) (length (ts ++ name ∷ [])))
    ∙ within (same_bytes m t) (at_or_below (ts ++ name ∷ []) ms)
    (nat_lt (length ms) (length (ts ++ name ∷ []))) (at_or_below ts ms) (strictly_is ts name ms)

strictly_shown : (path top q : Path) → IsOneBelow path top → strictly_below path q ≡ at_or_below top
    q
strictly_shown path top q one = ap (λ p. strictly_below p q) one.1 ∙ strictly_is top one.0 q

nothing_above : (q : Path) → strictly_below [] q ≡ false
nothing_above [] = refl
nothing_above (m ∷ ms) = refl

-- a path at or below one that isn't shorter is that one
same_length : (p q : Path) → at_or_below p q ≡ true → length p ≤ length q → q ≡ p
same_length [] [] h l = refl
same_length (n ∷ ns) [] h l = absurd (omega (arith, l))
same_length [] (m ∷ ms) h l = cc
same_length (n ∷ ns) (m ∷ ms) h l =
    ap (λ k. k ∷ ms) (same_head n m ns ms h)
    ∙ ap (λ ks. n ∷ ks) (same_length ns ms (rest_below n m ns ms h) (omega (arith, l)))

-- ---- the directory that has a path

directory_case : (entries : List Record) (found : Option ℕ) (d : ℕ) → directory_of entries found
    ≡ Some d → (found ≡ Some d) × (is_directory entries d ≡ true)
directory_case entries None d h = cc
directory_case entries (Some e) d h = by_flag (is_directory entries e) refl h
  where
    by_flag : (b : Bool) → is_directory entries e ≡ b → (if b then Some e else None) ≡ Some d
        → (Some e ≡ Some d) × (is_directory entries d ≡ true)
    by_flag true f g =
        (g, (let same : e ≡ d = cc in subst (λ k. is_directory entries k ≡ true) same f))
    by_flag false f g = cc

module _ (entries : List Record) (up : ByPath entries) where
  not_less : (p : Path) → path_cmp p p ≡ Less → ⊥
  not_less p l = not_before p p (below_itself p) l

  behind_itself : (d e : ℕ) → d ≤ e → e < length entries → path_cmp (entry_at entries e).path
      (entry_at entries d).path ≡ Less → ⊥
  behind_itself d e a m l = elim (cases_lt d e) [
    | inl lt ↦ not_less (entry_at entries d).path
        (path_total.trans (entry_at entries d).path (entry_at entries e).path
        (entry_at entries d).path (rise entries up d e lt m) l)
    | inr ge ↦ (let same : e ≡ d = omega (arith, a, ge) in
        not_less (entry_at entries d).path
        (subst (λ k. path_cmp (entry_at entries k).path (entry_at entries d).path ≡ Less) same l))
  ]

  -- the entry with a path is found by it
  found_itself : (d : ℕ) → d < length entries → find_in (entry_at entries d).path entries ≡ Some d
  found_itself d l =
      found_where entries (entry_at entries d).path up d
      (record {
        upto = omega (arith, l);
        before = λ e b. rise entries up e d b l;
        behind = λ e a m.
            behind_itself d e a m;
      })
      (and_from (nat_lt d (length entries))
      (is_entry_at (entry_at entries d).path (entry_at entries d)) (lt-ltb d (length entries) l)
      (path_same (entry_at entries d).path (entry_at entries d).path refl))

  directory_found : (top : Path) (d : ℕ) → d < length entries → (entry_at entries d).path ≡ top
      → is_directory entries d ≡ true → directory_in top entries ≡ Some d
  directory_found top d l same dir =
      ap (directory_of entries) (ap (λ p. find_in p entries) (sym same) ∙ found_itself d l)
      ∙ ap (λ b. if b then Some d else None) dir

  -- ---- the path above is a directory's

  pub above_found : (path top : Path) (d : ℕ) → IsOneBelow path top → directory_in top entries
      ≡ Some d → nearest_above entries path ≡ Some d
  above_found path top d one h =
      let shown = directory_case entries (find_in top entries) d h in
      let place = position-Some (is_entry_at top) entries d no_record shown.0 in
      let same : (entry_at entries d).path ≡ top =
      path_exact (entry_at entries d).path top place.1 in
      greatest_is (length entries)
      (λ k. is_directory entries k && strictly_below path (entry_at entries k).path) d place.0
      (and_from (is_directory entries d) (strictly_below path (entry_at entries d).path) shown.1
      (strictly_shown path top (entry_at entries d).path one ∙ subst (λ p. at_or_below top p ≡ true)
      (sym same) (below_itself top)))
      (λ j a b. false_from_ne_true
      (is_directory entries j && strictly_below path (entry_at entries j).path) (λ t.
      not_before top (entry_at entries j).path
      (sym (strictly_shown path top (entry_at entries j).path one)
      ∙ second_so (is_directory entries j) (strictly_below path (entry_at entries j).path) t)
      (subst (λ p. path_cmp p (entry_at entries j).path ≡ Less) same (rise entries up d j a b))))

  -- ---- it is none's

  longer_if : (top : Path) (k : ℕ) → directory_in top entries ≡ None → k < length entries
      → is_directory entries k ≡ true → at_or_below top (entry_at entries k).path ≡ true
      → nat_lt (length (entry_at entries k).path) (length top) ≡ true
  longer_if top k none l dir below =
      elim (cases_lt (length (entry_at entries k).path) (length top)) [
        | inl lt ↦ lt-ltb (length (entry_at entries k).path) (length top) lt
        | inr ge ↦ (let found = directory_found top k l
            (same_length top (entry_at entries k).path below ge) dir in absurd cc)
      ]

  all_three : (dir below less : Bool) → (dir ≡ true → below ≡ true → less ≡ true)
      → (dir && below) ≡ (dir && (below && less))
  all_three false below less f = refl
  all_three true false less f = refl
  all_three true true less f = sym (f refl refl)

  pub above_next : (path top : Path) → IsOneBelow path top → directory_in top entries ≡ None
      → nearest_above entries path ≡ nearest_above entries top
  above_next path top one none =
      greatest_agree (length entries)
      (λ k. is_directory entries k && strictly_below path (entry_at entries k).path)
      (λ k. is_directory entries k && strictly_below top (entry_at entries k).path)
      (λ k l. ap (λ b. is_directory entries k && b)
      (strictly_shown path top (entry_at entries k).path one)
      ∙ all_three (is_directory entries k) (at_or_below top (entry_at entries k).path)
      (nat_lt (length (entry_at entries k).path) (length top)) (longer_if top k none l))

  -- ---- no path is above

  pub above_none : (path : Path) → path ≡ [] → nearest_above entries path ≡ None
  above_none path h =
      greatest_none (length entries)
      (λ k. is_directory entries k && strictly_below path (entry_at entries k).path)
      (λ k l. ap (λ p. is_directory entries k && strictly_below p (entry_at entries k).path) h
      ∙ ap (λ b. is_directory entries k && b) (nothing_above (entry_at entries k).path)
      ∙ no_and (is_directory entries k))

  -- ---- the same, as the search for it tells

  pub search_ends : (path top : Path) (found : Option ℕ) → IsOneBelow path top
      → found ≡ directory_in top entries → is_some found ≡ true → found ≡ nearest_above entries path
  search_ends path top None one h some = cc
  search_ends path top (Some d) one h some = sym (above_found path top d one (sym h))

  pub search_goes_on : (path top : Path) (found : Option ℕ) → IsOneBelow path top
      → found ≡ directory_in top entries → is_some found ≡ false → nearest_above entries path
      ≡ nearest_above entries top
  search_goes_on path top None one h some = above_next path top one (sym h)
  search_goes_on path top (Some d) one h some = cc
