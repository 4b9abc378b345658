-- The front of a path's names, a name at a time.
use Rattle.std.proofs.Common.{◌≡◌, ◌∙◌, refl, ℕ, ◌+◌, Bool, true, false, List, drop}
use Rattle.std.specs.Prelude.{Some, ◌&&◌, not, slice_get}
use Rattle.std.specs.List.{starts_with}
use Rattle.label_base.specs.Text.{same_bytes}
use Rattle.file_paths.specs.Path.{Path}
use Rattle.path_subs.proofs.Covering.{drop-next}

next_name : (path other : Path) (place i : ℕ) (x y : List ℕ) → slice_get path place ≡ Some x
    → slice_get other i ≡ Some y → starts_with same_bytes (drop place path) (drop i other)
    ≡ (same_bytes y x && starts_with same_bytes (drop (place + 1) path) (drop (i + 1) other))
next_name path other place i x y e f = rw (drop-next path place x e, drop-next other i y f) refl

by_same : (same rest : Bool) → not same ≡ false → (same && rest) ≡ rest
by_same true rest h = refl
by_same false rest h = cc

by_other : (same rest : Bool) → not same ≡ true → (same && rest) ≡ false
by_other true rest h = cc
by_other false rest h = refl

pub same_name : (path other : Path) (place i : ℕ) (x y : List ℕ) → slice_get path place ≡ Some x
    → slice_get other i ≡ Some y → not (same_bytes y x) ≡ false
    → starts_with same_bytes (drop place path) (drop i other) ≡ starts_with same_bytes
    (drop (place + 1) path) (drop (i + 1) other)
same_name path other place i x y e f h = next_name path other place i x y e f
    ∙ by_same (same_bytes y x) _ h

pub other_name : (path other : Path) (place i : ℕ) (x y : List ℕ) → slice_get path place ≡ Some x
    → slice_get other i ≡ Some y → not (same_bytes y x) ≡ true
    → starts_with same_bytes (drop place path) (drop i other) ≡ false
other_name path other place i x y e f h = next_name path other place i x y e f
    ∙ by_other (same_bytes y x) _ h
