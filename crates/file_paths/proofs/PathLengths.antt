-- The text that is kept of a path is at most one byte longer than the bytes that spell it.
use Rattle.std.proofs.Common.{◌≡◌, refl, ℕ, ◌==◌, ◌+◌, ◌≤◌, suc, length, arith, Bool, true, false}
use Rattle.std.proofs.Common.{cond, List, [], ◌∷◌, length-append}
use Rattle.std.proofs.lemmas.Bool.Decides.{nat_tests}
use Rattle.std.specs.Prelude.{filter, nat_lt, slice_index, not, Result, Ok, Err, if◌then◌else◌}
use Rattle.std.specs.Prelude.{IfOk}
use Rattle.file_paths.specs.declared.path_fault.PathWhy.TheVariants.{Empty, PathTooLong, HasNul}
use Rattle.file_paths.specs.declared.path_fault.PathWhy.TheVariants.{NotAbsolute, DotPart}
use Rattle.std.specs.List.{slice_split, onto_first, list_any}
use Rattle.label_base.specs.Text.{is_nonempty}
use Rattle.file_paths.specs.Path.{Path, is_slash, path_names, path_read, with_slashes, are_names}
use Rattle.file_paths.specs.Path.{is_dot_part}
use Rattle.file_paths.specs.PathRef.{IsTextOf, normal_text}
use Rattle.file_paths.proofs.PathLemmas.{names_back, normal_of_names, names_ok}

-- the bytes of pieces, and one for each
abbrev weight : List (List ℕ) → ℕ
weight [] = 0
weight (p ∷ ps) = suc (length p) + weight ps

one_more : (b : ℕ) (v : Bool) (pieces : List (List ℕ)) (n : ℕ) → weight pieces ≤ suc n
    → weight (cond v ([] ∷ pieces) (onto_first b pieces)) ≤ suc (suc n)
one_more b true pieces n h = omega (arith, h)
one_more b false [] n h = omega arith
one_more b false (p ∷ ps) n h = omega (arith, h)

weighed : (bytes : List ℕ) → weight (slice_split is_slash bytes) ≤ suc (length bytes)
weighed [] = omega arith
weighed (b ∷ bs) = one_more b (is_slash b) (slice_split is_slash bs) (length bs) (weighed bs)

kept : (pieces : List (List ℕ)) → length (with_slashes (filter is_nonempty pieces)) ≤ weight pieces
kept [] = omega arith
kept ([] ∷ ps) = let h = kept ps in omega (arith, h)
kept ((b ∷ bs) ∷ ps) =
    let h = kept ps in omega (arith, h, length-append bs (with_slashes (filter is_nonempty ps)))

pub short_text : (bytes : List ℕ) → length (normal_text bytes) ≤ suc (length bytes)
short_text bytes = omega (arith, kept (slice_split is_slash bytes), weighed bytes)

unshown : (a b c d e : Bool) (n p : Path)
    → (if a then Err Empty else if b then Err PathTooLong else if c then Err
    HasNul else if d then Err NotAbsolute else if e then Err DotPart else Ok n) ≡ Ok p → (b ≡ false)
    × (c ≡ false)
unshown true b c d e n p h = cc
unshown false true c d e n p h = cc
unshown false false true d e n p h = cc
unshown false false false d e n p h = (refl, refl)

few : (n : ℕ) → nat_lt 4095 n ≡ false → n ≤ 4095
few n h = grind (arith, nat_tests)

-- what is kept of a path that was read
pub text_of : (bytes : List ℕ) (names : Path) → path_read bytes ≡ Ok names
    → IsTextOf bytes (normal_text bytes)
text_of bytes names h =
    let shown = unshown (length bytes == 0) (nat_lt 4095 (length bytes))
    (list_any (λ b. b == 0) bytes) (not (slice_index bytes 0 == 47))
    (list_any is_dot_part (path_names bytes)) (path_names bytes) names h in
    let ok : are_names (path_names bytes) ≡ true = names_ok bytes shown.1 in
    record {
      normal = normal_of_names (path_names bytes) ok;
      names_are = names_back (path_names bytes) ok;
      short = omega (arith, few (length bytes) shown.0, short_text bytes);
    }

pub whatever : {A E : Type 0} (r : Result A E) (P : Type 0) → P → IfOk r (λ _. P)
whatever (Ok x) P h = h
whatever (Err e) P h = tt
