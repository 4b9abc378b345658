-- What stands in a word's place.
use Rattle.std.proofs.Common.{◌≡◌, ◌∙◌, sym, refl, ap, ℕ, suc, ◌+◌, ◌-◌, ◌≤◌, Bool, true, false}
use Rattle.std.proofs.Common.{cond, List, [], ◌∷◌, ◌++◌, length, min, take, length-append, arith}
use Rattle.std.specs.Prelude.{not, Some, slice_get}
use Rattle.std.specs.List.{count_by}
use Rattle.std.proofs.lemmas.List.{length-take-le, take_all, take_more}
use Rattle.std.proofs.lemmas.List.Sums.{sum_by-cons}
use Rattle.std.proofs.lemmas.Option.{get_or_from_slice_get}
use Rattle.std.proofs.Math.Seq.{take-append_seam}
use Rattle.file_paths.specs.Path.{Path, path_text, with_slashes}
use Rattle.file_paths.proofs.PathLemmas.{text_pushed}
use Rattle.home_contexts.specs.Escaped.{pattern_escaped, is_special, stands_bare}
use Rattle.home_contexts.specs.Words.{root_of, written_word}

-- ---- the root of a home

slashed : (path : Path) → 1 ≤ length path → path_text path ≡ with_slashes path
slashed [] h = absurd (omega arith)
slashed (name ∷ names) h = refl

last_apart : (n : ℕ) (home : Path) (last : List ℕ) → length home ≡ n + 1 → slice_get home n ≡ Some
    last → home ≡ take n home ++ last ∷ []
last_apart n home last h e =
    sym (take_all (n + 1) home (omega arith)) ∙ take_more home n [] (omega arith) ∙ ap (λ name. take
    n home ++ name ∷ []) (get_or_from_slice_get home n last [] e)

pub root_apart : (home : Path) (last : List ℕ) → 2 ≤ length home → slice_get home (length home - 1)
    ≡ Some last → path_text home ≡ path_text (root_of home) ++ 47 ∷ last
root_apart home last h e =
    let n = length home - 1 in
    let same : length home ≡ n + 1 = omega arith in
    let root : 1 ≤ length (take n home) = omega (arith, length-take-le n home (omega arith)) in
    slashed home (omega arith) ∙ ap with_slashes (last_apart n home last same e) ∙ text_pushed (take
    n home) last ∙ ap (λ text. text ++ 47 ∷ last) (sym (slashed (take n home) root))

pub root_fits : (home : Path) (last text : List ℕ) → 2 ≤ length home → slice_get home (length home -
    1) ≡ Some last → text ≡ path_text home → length last + 1 ≤ length text
root_fits home last text h e same =
    let apart = ap length (same ∙ root_apart home last h e) in
    let sum = length-append (path_text (root_of home)) (47 ∷ last) in
    omega (arith, apart, sum)

pub root_is : (home : Path) (last text : List ℕ) → 2 ≤ length home → slice_get home (length home -
    1) ≡ Some last → text ≡ path_text home → take (length text - length last - 1) text ≡ path_text
    (root_of home)
root_is home last text h e same =
    let apart = same ∙ root_apart home last h e in
    let sum = length-append (path_text (root_of home)) (47 ∷ last) in
    let size : length text - length last - 1 ≡ length (path_text (root_of home)) = omega (
      arith,
      ap
          length apart,
      sum,
    ) in
    ap (λ n. take n text) size ∙ ap (take (length (path_text (root_of home)))) apart ∙
    take-append_seam (path_text (root_of home)) (47 ∷ last)

-- ---- lengths

byte_length : (b : ℕ) (v : Bool) (rest : List ℕ) (n marked : ℕ) → length rest ≡ n + marked
    → length (cond v (b ∷ []) (92 ∷ b ∷ []) ++ rest) ≡ suc n + (cond (not v) 1 0 + marked)
byte_length b true rest n marked h = omega (arith, h)
byte_length b false rest n marked h = omega (arith, h)

pub escaped_length : (text : List ℕ) → length (pattern_escaped text) ≡ length text + count_by
    is_special text
escaped_length [] = refl
escaped_length (b ∷ bs) =
    byte_length b (stands_bare b) (pattern_escaped bs) (length bs) (count_by is_special bs)
    (escaped_length
    bs)
    ∙ ap (λ n. suc (length bs) + n) (sym (sum_by-cons (λ x. cond (is_special x) 1 0) b bs))

-- a length so far with that of an escaped value
pub escaped_capped : (so_far : ℕ) (value : List ℕ) (in_pattern : Bool) (with_value marked all : ℕ) →
    in_pattern ≡ true → with_value ≡ min 67108865 (so_far + length value) → marked ≡ count_by
    is_special value
    → all ≡ min 67108865 (with_value + marked) → all ≡ min 67108865 (so_far + length (written_word
    in_pattern value))
escaped_capped so_far value in_pattern with_value marked all escapes first second both =
    let size : length (written_word in_pattern value) ≡ length value + count_by is_special value =
    ap (λ
    v. length (written_word v value)) escapes ∙ escaped_length value in
    omega (arith, first, second, both, size)
