-- The paths of a sample are read back.
use Rattle.std.proofs.Common.{◌≡◌, ◌∙◌, ap, refl, sym, ℕ, ◌≤◌, true, false, List, [], ◌∷◌, ◌++◌}
use Rattle.std.proofs.Common.{length, append-nil, length-append, arith}
use Rattle.std.specs.Prelude.{Ok}
use Rattle.std.specs.List.{list_all, list_any}
use Rattle.std.proofs.lemmas.Bool.{and_from}
use Rattle.std.proofs.lemmas.Bool.Decides.{nat_tests}
use Rattle.label_base.specs.Number.{is_digit}
use Rattle.file_paths.specs.Path.{Path, are_names, is_dot_part, is_name_byte, path_read, path_text}
use Rattle.file_paths.specs.Path.{with_slashes}
use Rattle.file_paths.proofs.PathLemmas.{names_back, normal_of_names}
use Rattle.file_paths.proofs.PathTexts.{normal_reads_back}
use Rattle.sample_tree.proofs.DigitLemmas.{all_more}

-- names are read back from their text
names_read : (names : Path) → are_names names ≡ true → length (path_text names) ≤ 4095
    → list_any is_dot_part names ≡ false → path_read (path_text names) ≡ Ok names
names_read names h short plain =
    let e = names_back names h in
    normal_reads_back (with_slashes names) (path_text names) (normal_of_names names h)
    (ap path_text (sym e)) short (ap (list_any is_dot_part) e ∙ plain)
    ∙ ap Ok e

digit_in_name : (b : ℕ) → is_digit b ≡ true → is_name_byte b ≡ true
digit_in_name b h = grind (arith, nat_tests)

in_name : (ds : List ℕ) → list_all is_digit ds ≡ true → list_all is_name_byte ds ≡ true
in_name ds h = all_more is_digit is_name_byte digit_in_name ds h

-- /dK
pub one_name : (ds : List ℕ) → list_all is_digit ds ≡ true → length ds ≤ 7
    → path_read (47 ∷ 100 ∷ ds) ≡ Ok ((100 ∷ ds) ∷ [])
one_name ds h short =
    ap (λ t. path_read (47 ∷ 100 ∷ t)) (sym (append-nil ds))
    ∙ names_read ((100 ∷ ds) ∷ []) (and_from (list_all is_name_byte ds) true (in_name ds h) refl)
    (omega (arith, length-append ds [])) refl

-- /dM/fI
pub two_names : (ds es : List ℕ) → list_all is_digit ds ≡ true → length ds ≤ 7
    → list_all is_digit es ≡ true → length es ≤ 7 → path_read (47 ∷ 100 ∷ (ds ++ 47 ∷ 102 ∷ es))
    ≡ Ok ((100 ∷ ds) ∷ (102 ∷ es) ∷ [])
two_names ds es h short g shorter =
    ap (λ t. path_read (47 ∷ 100 ∷ (ds ++ 47 ∷ 102 ∷ t))) (sym (append-nil es))
    ∙ names_read ((100 ∷ ds) ∷ (102 ∷ es) ∷ [])
    (and_from (list_all is_name_byte ds) _ (in_name ds h)
    (and_from (list_all is_name_byte es) true (in_name es g) refl))
    (omega (arith, length-append ds (47 ∷ 102 ∷ (es ++ [])), length-append es [])) refl
