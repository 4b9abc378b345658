-- The customizable types of an accepted file are words, and as many as its lines at most.
use Rattle.std.proofs.Common.{◌≡◌, ◌∙◌, sym, subst, ℕ, ◌+◌, ◌≤◌, Bool, true, false, cond}
use Rattle.std.proofs.Common.{List, [], ◌∷◌, length, arith}
use Rattle.std.specs.Prelude.{Ok, Contains}
use Rattle.std.specs.List.{list_all}
use Rattle.std.specs.Cmp.{eq_by_cmp_equiv}
use Rattle.std.specs.Cmp.Lexicographic.{nat_list_cmp_total, same_text, slice_cmp, texts_ties}
use Rattle.std.specs.FinMap.{contains_key, contains_key-keys, entries, keys, len, len-empty}
use Rattle.std.specs.FinMap.{len-entries, len-insert}
use Rattle.std.specs.Ordering.{eq_by_cmp, nat_cmp}
use Rattle.std.proofs.lemmas.List.{length-map}
use Rattle.std.proofs.lemmas.List.Elements.{All-contains, All-contains_itself}
use Rattle.std.proofs.lemmas.List.Elements.{All-from_recursion, All-weaker}
use Rattle.std.proofs.lemmas.List.Sums.{AllPass-from_list_all, list_all-from_AllPass}
use Rattle.std.proofs.lemmas.Map.Views.{Contains-from_any, list_any-from_Contains}
use Rattle.context_syntax.specs.Context.{is_word}
use Rattle.context_syntax.specs.TypeNames.{NameSet, names_in_order, set_of}
use Rattle.context_syntax.specs.TypeNames.{types_read}
use Rattle.context_syntax.specs.TypesGrammar.{TypeFieldsMean, TypesMean}
use Rattle.context_syntax.proofs.NameSets.{has_is}
use Rattle.context_syntax.proofs.TypesMeant.{types_mean}
use Rattle.label_base.specs.LineGrammar.{LinesMean}
use Rattle.policy_rehearsal.proofs.AcceptedLines.{each_said, few_values}

tied_same : (x y : List ℕ) → eq_by_cmp (slice_cmp nat_cmp) x y ≡ true → x ≡ y
tied_same x y e = same_text x y (sym (texts_ties x y ∙ e))

one_more : (b : Bool) (n m : ℕ) → n ≤ m → cond b n (n + 1) ≤ m + 1
one_more true n m h = omega (arith, h)
one_more false n m h = omega (arith, h)

few_set : (names : List (List ℕ)) → len (set_of names) ≤ length names
few_set [] = omega (arith, len-empty (slice_cmp nat_cmp))
few_set (name ∷ names) =
    omega (
      arith,
      len-insert nat_list_cmp_total (set_of names) name tt,
      one_more (contains_key (set_of names) name) (len (set_of names)) (length names)
          (few_set names),
    )

count_names : (types : NameSet) → length (names_in_order types) ≡ len types
count_names types = length-map (entries types) (λ e. e.0) ∙ sym (len-entries types)

-- what stands among the names of a set stands in the list
listed : (names : List (List ℕ)) (name : List ℕ) → Contains (names_in_order (set_of names)) name
    → Contains names name
listed names name h =
    Contains-from_any tied_same name names
    (sym (has_is names name) ∙ contains_key-keys (set_of names) name
    ∙ list_any-from_Contains (eq_by_cmp_equiv nat_list_cmp_total) name (keys (set_of names)) h)

words_kept : (names : List (List ℕ)) → list_all is_word names ≡ true
    → list_all is_word (names_in_order (set_of names)) ≡ true
words_kept names words =
    let all = names_in_order (set_of names) in
    list_all-from_AllPass is_word all
    (All-weaker (Contains all) (λ name. is_word name ≡ true)
    (λ name h. All-contains (λ n. is_word n ≡ true) names name
    (AllPass-from_list_all is_word names words) (listed names name h))
    all (All-contains_itself all))

words_said : (text : List ℕ) (names : List (List ℕ))
    → LinesMean TypeFieldsMean text (Ok names) → list_all is_word names ≡ true
words_said text names h =
    list_all-from_AllPass is_word names
    (All-from_recursion (λ name. is_word name ≡ true) names
    (each_said TypeFieldsMean (λ name. is_word name ≡ true) (λ number fields name is. is.1) 1 h.0
    names h.2))

types_by : (text : List ℕ) (types : NameSet) → TypesMean text (Ok types)
    → (length (names_in_order types) ≤ length text)
    × (list_all is_word (names_in_order types) ≡ true)
types_by text types (names, h, same) =
    let few = few_values TypeFieldsMean text names h in (
      subst (λ (t : NameSet). length (names_in_order t) ≤ length text) (sym same)
          (omega (arith, few, few_set names, count_names (set_of names))),
      subst (λ (t : NameSet). list_all is_word (names_in_order t) ≡ true) (sym same)
          (words_kept names (words_said text names h)),
    )

pub types_are : (text : List ℕ) (types : NameSet) → types_read text ≡ Ok types
    → (length (names_in_order types) ≤ length text)
    × (list_all is_word (names_in_order types) ≡ true)
types_are text types h = types_by text types ((types_mean text (Ok types)).0 h)
