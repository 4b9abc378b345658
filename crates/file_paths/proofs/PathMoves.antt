-- A path whose front gives place to another path's names.
use Rattle.std.proofs.Common.{◌≡◌, ◌∙◌, ap, sym, refl, subst, ℕ, ◌≤◌, true, List, [], ◌∷◌, ◌++◌}
use Rattle.std.proofs.Common.{length, drop, zero, suc}
use Rattle.std.proofs.lemmas.List.Concat.{flat_map-append}
use Rattle.std.proofs.lemmas.List.Folds.{list_all-append}
use Rattle.std.proofs.lemmas.List.Prefix.{front_fits, front_rest}
use Rattle.std.specs.Cmp.{first_so, second_so}
use Rattle.std.specs.Cmp.Lexicographic.{bytes_decides}
use Rattle.std.specs.Prelude.{Some, slice_get}
use Rattle.std.proofs.lemmas.Bool.{and_from}
use Rattle.label_base.specs.Text.{same_bytes}
use Rattle.file_paths.specs.Path.{Path, are_names, at_or_below, is_name, path_names, with_slashes}
use Rattle.file_paths.specs.PathText.{IsNormal}
use Rattle.file_paths.proofs.PathLemmas.{names_behind}

-- a name of a path is a name
pub name_at : (names : Path) (i : ℕ) (name : List ℕ) → are_names names ≡ true
    → slice_get names i ≡ Some name → is_name name ≡ true
name_at [] i name h e = cc
name_at (n ∷ ns) zero name h e = let same : n ≡ name = cc in
    rw (← same) (first_so (is_name n) (are_names ns) h)
name_at (n ∷ ns) (suc i) name h e = name_at ns i name (second_so (is_name n) (are_names ns) h) e

-- a path at or below another goes on behind it
pub below_front : (ns ms : Path) → at_or_below ns ms ≡ true → ns ≡ ms ++ drop (length ms) ns
below_front ns [] h = refl
below_front [] (m ∷ ms) h = cc
below_front (n ∷ ns) (m ∷ ms) h =
    let same : m ≡ n = (bytes_decides m n).0 (first_so (same_bytes m n) (at_or_below ns ms) h) in
    ap (λ k. k ∷ ns) (sym same)
    ∙ ap (λ ks. m ∷ ks) (below_front ns ms (second_so (same_bytes m n) (at_or_below ns ms) h))

pub are_both : (ns ms : Path) → are_names ns ≡ true → are_names ms ≡ true → are_names (ns ++ ms)
    ≡ true
are_both ns ms h g = list_all-append is_name ns ms ∙ and_from (are_names ns) (are_names ms) h g

are_last : (ns ms : Path) → are_names (ns ++ ms) ≡ true → are_names ms ≡ true
are_last ns ms h = second_so (are_names ns) (are_names ms) (sym (list_all-append is_name ns ms) ∙ h)

joined_names : (u : List ℕ) (rest : Path) → IsNormal u → are_names rest ≡ true
    → (path_names (u ++ with_slashes rest) ≡ path_names u ++ rest)
    × IsNormal (u ++ with_slashes rest)
joined_names u rest (e, h) g =
    let names = names_behind u rest g in (
      names,
      (
        ap with_slashes names ∙ flat_map-append (λ name. 47 ∷ name) (path_names u) rest
            ∙ ap (λ x. x ++ with_slashes rest) e,
        ap are_names names ∙ are_both (path_names u) rest h g,
      ),
    )

-- the text behind the front of a path at or below another, put behind a third
pub moved : (s t u : List ℕ) → IsNormal s → IsNormal t → IsNormal u
    → at_or_below (path_names s) (path_names t) ≡ true
    → (length t ≤ length s)
    × (path_names (u ++ drop (length t) s) ≡ path_names u ++ drop (length (path_names t))
    (path_names s)) × IsNormal (u ++ drop (length t) s)
moved s t u (e, h) (f, g) n b =
    let rest = drop (length (path_names t)) (path_names s) in
    let front = below_front (path_names s) (path_names t) b in
    let text : s ≡ t ++ with_slashes rest = sym e ∙ ap with_slashes front
    ∙ flat_map-append (λ name. 47 ∷ name) (path_names t) rest
    ∙ ap (λ x. x ++ with_slashes rest) f in
    let names : are_names rest ≡ true =
    are_last (path_names t) rest (sym (ap are_names front) ∙ h) in
    let behind : with_slashes rest ≡ drop (length t) s =
    sym (front_rest s t (with_slashes rest) text) in
    let P : List ℕ → Type 0 = λ x. (path_names (u ++ x) ≡ path_names u ++ rest)
    × IsNormal (u ++ x) in
    let joined = subst P behind (joined_names u rest n names) in
    (front_fits s t (with_slashes rest) text, joined.0, joined.1)

-- a path's text behind another's
pub joined_normal : (u v : List ℕ) → IsNormal u → IsNormal v
    → (path_names (u ++ v) ≡ path_names u ++ path_names v) × IsNormal (u ++ v)
joined_normal u v n (e, h) =
    let P : List ℕ → Type 0 = λ x. (path_names (u ++ x) ≡ path_names u ++ path_names v)
    × IsNormal (u ++ x) in
    subst P e (joined_names u (path_names v) n h)
