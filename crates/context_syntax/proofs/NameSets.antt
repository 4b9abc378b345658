-- A list of names and the set of its names.
use Rattle.std.proofs.Common.{◌≡◌, ◌∙◌, ap, sym, refl, subst, ℕ, Bool, true, false, cond, List, []}
use Rattle.std.proofs.Common.{◌∷◌, length, ◌+◌, get_or, arith}
use Rattle.std.specs.Prelude.{Option, Some, None, map as list_map, is_some, is_ok, Result, Ok, Err}
use Rattle.std.specs.Prelude.{◌||◌, ◌&&◌, nat_lt, IsPermutation, T}
use Rattle.std.specs.List.{list_any, list_all, dedup, AllByRecursion}
use Rattle.std.specs.List.Sorted.{IsStrictlySortedBy, IsSorted, IsSortedBy, IsBinarySearchResult}
use Rattle.std.specs.List.Sorted.{IsSearchInRange}
use Rattle.std.specs.Str.{bytes_eq}
use Rattle.std.specs.Cmp.{eq_by_cmp_equiv, both_ways}
use Rattle.std.specs.Cmp.Lexicographic.{slice_cmp, nat_list_cmp_total, nat_list_eq_equiv}
use Rattle.std.specs.Cmp.Lexicographic.{texts_ties, same_text}
use Rattle.std.specs.Ordering.{nat_cmp, eq_by_cmp, is_eq, is_lt, ordering_reverse}
use Rattle.std.specs.declared.cmp.Ordering.{Ordering}
use Rattle.std.specs.declared.cmp.Ordering.TheVariants.{Less, Equal, Greater}
use Rattle.std.specs.FinMap.{find, from_sorted, is_sorted, get, get-from_entries, get-from_sorted}
use Rattle.std.specs.FinMap.{entries-from_sorted, same_map, keys, nat_cmp-IsAntisymmetric}
use Rattle.std.specs.FinMap.{slice_cmp-IsAntisymmetric}
use Rattle.std.specs.FinMap.Entries.{below_all}
use Rattle.std.proofs.lemmas.List.Sorted.{list_any-IsPermutation, searchable_from_sorted}
use Rattle.std.proofs.lemmas.List.Sorted.{All-permutation}
use Rattle.std.proofs.lemmas.List.Filters.{All-dedup}
use Rattle.std.proofs.lemmas.List.Kept.{Contains-dedup, Contains-from_dedup}
use Rattle.std.proofs.lemmas.List.Kept.{IsStrictlySortedBy-dedup}
use Rattle.std.proofs.lemmas.Bool.{ltb-false, ltb-true}
use Rattle.std.proofs.lemmas.List.Folds.{list_any_at, list_any_none}
use Rattle.std.proofs.lemmas.Map.Keys.{Less-from_sorted}
use Rattle.std.proofs.lemmas.List.Sums.{AllPass-from_list_all, list_all-from_AllPass}
use Rattle.std.proofs.lemmas.Map.Views.{Contains-from_any, list_any-from_Contains}
use Rattle.context_syntax.specs.Context.{is_word}
use Rattle.context_syntax.specs.TypeNames.{name_entry, set_of, set_has_name, names_in_order}
use Rattle.context_syntax.specs.TypeNames.{IsTypeRow}

abbrev byte_order : List ℕ → List ℕ → Ordering
byte_order = slice_cmp nat_cmp

abbrev marked : Bool → Option (Unit {0})
marked b = cond b (Some tt) None

mark_or : (a b : Bool) → cond a (Some tt) (marked b) ≡ marked (a || b)
mark_or true b = refl
mark_or false b = refl

-- a name is found where one of the list ties with it
found_is : (names : List (List ℕ)) (name : List ℕ)
    → find byte_order name (list_map name_entry names)
    ≡ marked (list_any (eq_by_cmp byte_order name) names)
found_is [] name = refl
found_is (x ∷ xs) name =
    ap (cond (eq_by_cmp byte_order name x) (Some tt)) (found_is xs name)
    ∙ mark_or (eq_by_cmp byte_order name x) (list_any (eq_by_cmp byte_order name) xs)

got_is : (names : List (List ℕ)) (name : List ℕ) → get (set_of names) name
    ≡ marked (list_any (eq_by_cmp byte_order name) names)
got_is names name = get-from_entries nat_list_cmp_total (list_map name_entry names) name
    ∙ found_is names name

is_marked : (b : Bool) → is_some (marked b) ≡ b
is_marked true = refl
is_marked false = refl

pub has_is : (names : List (List ℕ)) (name : List ℕ) → set_has_name (set_of names) name
    ≡ list_any (eq_by_cmp byte_order name) names
has_is names name = ap is_some (got_is names name)
    ∙ is_marked (list_any (eq_by_cmp byte_order name) names)

same_sets : (xs ys : List (List ℕ))
    → ((name : List ℕ) → list_any (eq_by_cmp byte_order name) xs
    ≡ list_any (eq_by_cmp byte_order name) ys) → set_of xs ≡ set_of ys
same_sets xs ys same =
    same_map nat_list_cmp_total (slice_cmp-IsAntisymmetric nat_cmp-IsAntisymmetric) (set_of xs)
    (set_of ys)
    (λ name. got_is xs name ∙ ap marked (same name) ∙ sym (got_is ys name))

tied_same : (x y : List ℕ) → eq_by_cmp byte_order x y ≡ true → x ≡ y
tied_same x y e = same_text x y (sym (texts_ties x y ∙ e))

equal_same : (x y : List ℕ) → bytes_eq x y ≡ true → x ≡ y
equal_same x y e = same_text x y (sym e)

-- leaving repeats out leaves the set
dedup_any : (xs : List (List ℕ)) (name : List ℕ) → list_any (eq_by_cmp byte_order name)
    (dedup bytes_eq xs) ≡ list_any (eq_by_cmp byte_order name) xs
dedup_any xs name =
    let equiv = eq_by_cmp_equiv nat_list_cmp_total in
    both_ways _ _
    (λ t. list_any-from_Contains equiv name xs
    (Contains-from_dedup bytes_eq xs name
    (Contains-from_any tied_same name (dedup bytes_eq xs) t)))
    (λ t. list_any-from_Contains equiv name (dedup bytes_eq xs)
    (Contains-dedup nat_list_eq_equiv equal_same xs name
    (Contains-from_any tied_same name xs t)))

pub set_of-dedup : (xs ys : List (List ℕ)) → IsPermutation xs ys → set_of (dedup bytes_eq ys)
    ≡ set_of xs
set_of-dedup xs ys p =
    same_sets (dedup bytes_eq ys) xs
    (λ name. dedup_any ys name
    ∙ sym (list_any-IsPermutation (eq_by_cmp byte_order name) xs ys p))

below_both : (a b : Bool) → T a → T b → T (a && b)
below_both true b p q = q
below_both false b p q = absurd p

below_of : (name : List ℕ) (names : List (List ℕ)) → AllByRecursion (λ y. byte_order name y ≡ Less)
    names → T (below_all byte_order name (list_map name_entry names))
below_of name [] all = tt
below_of name (x ∷ xs) all =
    below_both (is_lt (byte_order name x)) (below_all byte_order name (list_map name_entry xs))
    (subst (λ r. T (is_lt r)) (sym all.0) tt) (below_of name xs all.1)

entries_sorted : (names : List (List ℕ)) → IsStrictlySortedBy byte_order names
    → T (is_sorted byte_order (list_map name_entry names))
unfolding IsStrictlySortedBy
entries_sorted [] s = tt
entries_sorted (x ∷ xs) s = below_both (below_all byte_order x (list_map name_entry xs))
    (is_sorted byte_order (list_map name_entry xs)) (below_of x xs s.0) (entries_sorted xs s.1)

first_of_entry : (names : List (List ℕ)) → list_map (λ e. e.0) (list_map name_entry names) ≡ names
first_of_entry [] = refl
first_of_entry (x ∷ xs) = ap (λ ys. x ∷ ys) (first_of_entry xs)

-- names in byte order, each once, are their set's names in order
pub names_in_order-set_of : (names : List (List ℕ)) → IsStrictlySortedBy byte_order names
    → names ≡ names_in_order (set_of names)
names_in_order-set_of names s =
    let es = list_map name_entry names in
    let sorted = entries_sorted names s in
    let same : set_of names ≡ from_sorted {R = byte_order} es =
    same_map nat_list_cmp_total (slice_cmp-IsAntisymmetric nat_cmp-IsAntisymmetric) (set_of names)
    (from_sorted {R = byte_order} es)
    (λ name. get-from_entries nat_list_cmp_total es name
    ∙ sym (get-from_sorted byte_order es name sorted)) in
    sym (ap keys same ∙ ap (list_map (λ e. e.0)) (entries-from_sorted byte_order es sorted)
    ∙ first_of_entry names)

pub empty_row : IsTypeRow []
unfolding IsStrictlySortedBy
empty_row = record { words = refl; ordered = tt }

sorted_of : (names : List (List ℕ)) → IsStrictlySortedBy byte_order names
    → IsSortedBy (λ a b. is_lt (byte_order a b)) names
sorted_of names s = λ k d low high.
    let rises = Less-from_sorted byte_order names k (k + 1) d s (omega arith) high in
    ap is_lt (nat_list_cmp_total.antisymm (get_or names (k + 1) d) (get_or names k d)
    ∙ ap ordering_reverse rises)

tied_with : (name x : List ℕ) (r : Ordering) → byte_order x name ≡ r → eq_by_cmp byte_order name x
    ≡ is_eq r
tied_with name x r e = (eq_by_cmp_equiv nat_list_cmp_total).symm name x ∙ ap is_eq e

-- a binary search finds the names of the set
pub searched_is : (names : List (List ℕ)) (name : List ℕ) (r : Result ℕ ℕ)
    → IsStrictlySortedBy byte_order names → IsSearchInRange r (length names)
    → IsBinarySearchResult (λ y. byte_order y name) names r → is_ok r ≡ set_has_name (set_of names)
    name
searched_is names name (Ok i) s range found =
    sym (has_is names name ∙ list_any_at (eq_by_cmp byte_order name) names i name range
    (tied_with name (get_or names i name) Equal (found name)))
searched_is names name (Err i) s range found =
    let point = found
    (searchable_from_sorted nat_list_cmp_total (λ x. x) names name (sorted_of names s)) in
    sym (has_is names name ∙ list_any_none (eq_by_cmp byte_order name) names (λ k d below.
    elim (nat_lt k i) as (λ b. nat_lt k i ≡ b → eq_by_cmp byte_order name (get_or names k d)
    ≡ false) [
      | true ↦ λ t. tied_with name (get_or names k d) Less
          (point.0 k d (omega arith) (ltb-true k i t))
      | false ↦ λ f. tied_with name (get_or names k d) Greater (point.1 k d (ltb-false k i f) below)
    ] refl))

words_permuted : (xs ys : List (List ℕ)) → IsPermutation xs ys → list_all is_word xs ≡ true
    → list_all is_word ys ≡ true
words_permuted xs ys p h =
    list_all-from_AllPass is_word ys
    (All-permutation (λ x. is_word x ≡ true) xs ys p (AllPass-from_list_all is_word xs h))

-- a sorted list without repeats is a row of type names
pub dedup_row : (xs ys : List (List ℕ)) → list_all is_word xs ≡ true → IsPermutation xs ys
    → IsSorted byte_order ys → IsTypeRow (dedup bytes_eq ys)
dedup_row xs ys words p sorted = record {
  words = list_all-from_AllPass is_word (dedup bytes_eq ys)
      (All-dedup bytes_eq (λ x. is_word x ≡ true) ys
      (AllPass-from_list_all is_word ys (words_permuted xs ys p words)));
  ordered = IsStrictlySortedBy-dedup nat_list_cmp_total texts_ties ys sorted;
}
