-- The text of a path without its last name.
use Rattle.std.proofs.Common.{◌≡◌, ◌∙◌, ap, sym, refl, subst, ℕ, zero, suc, ◌+◌, ◌-◌, ◌<◌, ◌≤◌}
use Rattle.std.proofs.Common.{true, List, [], ◌∷◌, ◌++◌, length, length-append, take, arith}
use Rattle.std.proofs.Math.Seq.{take-append_seam}
use Rattle.std.proofs.lemmas.List.Folds.{list_all-append}
use Rattle.std.specs.Cmp.{first_so}
use Rattle.std.specs.Prelude.{Some, slice_get}
use Rattle.file_paths.specs.Path.{Path, are_names, is_name, path_names, path_text, with_slashes}
use Rattle.file_paths.specs.PathText.{IsNormal}
use Rattle.file_paths.proofs.PathLemmas.{names_back, normal_of_names, text_pushed}
use Rattle.tree_model.specs.Fronts.{IsOneBelow}

-- a path is its names before the last, and that one
last_apart : (path : Path) (k : ℕ) (name : List ℕ) → length path ≡ suc k
    → slice_get path k ≡ Some name → path ≡ take k path ++ name ∷ []
last_apart [] k name h e = absurd (omega (arith, h))
last_apart (n ∷ []) zero name h e = let same : n ≡ name = cc in ap (λ m. m ∷ []) same
last_apart (n ∷ m ∷ ms) zero name h e = absurd (omega (arith, h))
last_apart (n ∷ ns) (suc k) name h e = ap (λ ms. n ∷ ms) (last_apart ns k name (omega (arith, h)) e)

some_text : (path : Path) (k : ℕ) → length path ≡ suc k → path_text path ≡ with_slashes path
some_text [] k h = absurd (omega (arith, h))
some_text (n ∷ ns) k h = refl

-- what of a path's text stands before its last name
pub record HasFront (path : Path) (text name : List ℕ) : Type 0 where
  pub fits : length name + 1 ≤ length text
  pub normal : IsNormal (take (length text - length name - 1) text)
  pub below : IsOneBelow path (path_names (take (length text - length name - 1) text))

front_of : (path front : Path) (text name : List ℕ) → are_names path ≡ true
    → path ≡ front ++ name ∷ [] → text ≡ with_slashes path → HasFront path text name
front_of path front text name are apart spelled =
    let are_front : are_names front ≡ true = first_so (are_names front) (are_names (name ∷ []))
    (sym (list_all-append is_name front (name ∷ [])) ∙ sym (ap are_names apart) ∙ are) in
    let whole : text ≡ with_slashes front ++ 47 ∷ name = spelled ∙ ap with_slashes apart
    ∙ text_pushed front name in
    let long : length text ≡ length (with_slashes front) + suc (length name) = ap length whole
    ∙ length-append (with_slashes front) (47 ∷ name) in
    let end : length text - length name - 1 ≡ length (with_slashes front) = omega (arith, long) in
    let cut : take (length text - length name - 1) text ≡ with_slashes front =
    ap (λ n. take n text) end ∙ ap (take (length (with_slashes front))) whole
    ∙ take-append_seam (with_slashes front) (47 ∷ name) in
    record {
      fits = omega (arith, long);
      normal = subst IsNormal (sym cut) (normal_of_names front are_front);
      below = (
        name,
        apart
            ∙ ap (λ ns. ns ++ name ∷ []) (sym (ap path_names cut ∙ names_back front are_front)),
      );
    }

pub has_front : (path : Path) (text name : List ℕ) (count : ℕ) → are_names path ≡ true
    → count ≡ length path → 0 < count → slice_get path (count - 1) ≡ Some name
    → text ≡ path_text path → HasFront path text name
has_front path text name count are counted some last spelled =
    let more : length path ≡ suc (count - 1) = omega (arith, counted, some) in
    front_of path (take (count - 1) path) text name are (last_apart path (count - 1) name more last)
    (spelled ∙ some_text path (count - 1) more)
