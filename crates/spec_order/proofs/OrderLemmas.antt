-- The order keeps each specification.
use Rattle.std.proofs.Common.{◌≡◌, ◌∙◌, refl, ap, suc, Bool, true, false, cond, List, [], ◌∷◌, ◌++◌}
use Rattle.std.proofs.Common.{ℕ, ◌+◌, ◌<◌, sym, length, length-append, get_or, take, drop, arith}
use Rattle.std.specs.Prelude.{filter, not}
use Rattle.std.specs.List.{list_all}
use Rattle.std.specs.Cmp.{first_so, second_so}
use Rattle.std.proofs.lemmas.List.{take-append-drop, take_more}
use Rattle.std.proofs.lemmas.List.Elements.{filter-append}
use Rattle.spec_order.specs.Order.{in_order, is_exact_spec, is_pattern_spec}
use Rattle.spec_reader.specs.SpecValue.{SpecValue}

one_more : (v : Bool) (s : SpecValue) (patterns exact : List SpecValue)
    → length (cond (not v) (s ∷ patterns) patterns ++ cond v (s ∷ exact) exact)
    ≡ suc (length (patterns ++ exact))
one_more true s patterns exact = length-append patterns (s ∷ exact)
    ∙ omega (arith, length-append patterns exact)
one_more false s patterns exact = refl

pub length_in_order : (specs : List SpecValue) → length (in_order specs) ≡ length specs
length_in_order [] = refl
length_in_order (s ∷ specs) = one_more (is_exact_spec s) s (filter is_pattern_spec specs)
    (filter is_exact_spec specs) ∙ ap suc (length_in_order specs)

-- exact texts alone are in order, and no pattern is among them
pub all_exact : (specs : List SpecValue) → list_all is_exact_spec specs ≡ true
    → filter is_exact_spec specs ≡ specs
all_exact [] h = refl
all_exact (s ∷ specs) h =
    ap (λ v. cond v (s ∷ filter is_exact_spec specs) (filter is_exact_spec specs))
    (first_so (is_exact_spec s) (list_all is_exact_spec specs) h)
    ∙ ap (λ l. s ∷ l)
    (all_exact specs (second_so (is_exact_spec s) (list_all is_exact_spec specs) h))

pub no_pattern : (specs : List SpecValue) → list_all is_exact_spec specs ≡ true
    → filter is_pattern_spec specs ≡ []
no_pattern [] h = refl
no_pattern (s ∷ specs) h =
    ap (λ v. cond (not v) (s ∷ filter is_pattern_spec specs) (filter is_pattern_spec specs))
    (first_so (is_exact_spec s) (list_all is_exact_spec specs) h)
    ∙ no_pattern specs (second_so (is_exact_spec s) (list_all is_exact_spec specs) h)

-- a pattern more in front
pub none_more : (specs : List SpecValue) (i : ℕ) (spec : SpecValue) → i < length specs
    → is_exact_spec (get_or specs i spec) ≡ false → filter is_exact_spec (take i specs) ≡ []
    → filter is_exact_spec (take (i + 1) specs) ≡ []
none_more specs i spec within pattern none =
    ap (filter is_exact_spec) (take_more specs i spec within)
    ∙ filter-append is_exact_spec (take i specs) (get_or specs i spec ∷ [])
    ∙ ap (λ l. l ++ filter is_exact_spec (get_or specs i spec ∷ [])) none
    ∙ ap (λ v. cond v (get_or specs i spec ∷ []) []) pattern

pub all_more : (specs : List SpecValue) (i : ℕ) (spec : SpecValue) → i < length specs
    → is_exact_spec (get_or specs i spec) ≡ false
    → filter is_pattern_spec (take i specs) ≡ take i specs
    → filter is_pattern_spec (take (i + 1) specs) ≡ take (i + 1) specs
all_more specs i spec within pattern all =
    ap (filter is_pattern_spec) (take_more specs i spec within)
    ∙ filter-append is_pattern_spec (take i specs) (get_or specs i spec ∷ [])
    ∙ ap (λ l. l ++ filter is_pattern_spec (get_or specs i spec ∷ [])) all
    ∙ ap (λ v. take i specs ++ cond (not v) (get_or specs i spec ∷ []) []) pattern
    ∙ sym (take_more specs i spec within)

-- patterns in front stay, and the others behind them are moved
pub patterns_kept : (specs : List SpecValue) (count : ℕ)
    → filter is_pattern_spec (take count specs) ≡ take count specs
    → take count specs ++ filter is_pattern_spec (drop count specs) ≡ filter is_pattern_spec specs
patterns_kept specs count all =
    ap (λ l. l ++ filter is_pattern_spec (drop count specs)) (sym all)
    ∙ sym (filter-append is_pattern_spec (take count specs) (drop count specs))
    ∙ ap (filter is_pattern_spec) (take-append-drop count specs)

pub exact_moved : (specs : List SpecValue) (count : ℕ)
    → filter is_exact_spec (take count specs) ≡ []
    → filter is_exact_spec (drop count specs) ≡ filter is_exact_spec specs
exact_moved specs count none =
    ap (λ l. l ++ filter is_exact_spec (drop count specs)) (sym none)
    ∙ sym (filter-append is_exact_spec (take count specs) (drop count specs))
    ∙ ap (filter is_exact_spec) (take-append-drop count specs)
