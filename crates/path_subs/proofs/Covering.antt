-- The last line that covers a path.
use Rattle.std.proofs.Common.{◌≡◌, ◌∙◌, refl, ℕ, zero, suc, ◌+◌, Bool, true, false, cond, List, []}
use Rattle.std.proofs.Common.{◌∷◌, take, drop, add-one}
use Rattle.std.specs.Prelude.{Option, Some, None, ◌||◌, is_some, filter, slice_get}
use Rattle.std.specs.List.{last_or, list_any}
use Rattle.file_paths.specs.Path.{Path}
use Rattle.path_subs.specs.Subs.{SubValue, covering, covers}

module _ {A : Type 0} (p : A → Bool) where
  last_of_cond : (o : Option A) (b : Bool) (x : A) (ys zs : List A)
      → ((o' : Option A) → last_or o' (filter p ys) ≡ last_or o' (filter p zs))
      → last_or o (cond b (x ∷ filter p ys) (filter p ys))
      ≡ last_or o (cond b (x ∷ filter p zs) (filter p zs))
  last_of_cond o true x ys zs h = h (Some x)
  last_of_cond o false x ys zs h = h o

  passed : (xs : List A) (i : ℕ) (x : A) → slice_get xs i ≡ Some x → p x ≡ false → (o : Option A)
      → last_or o (filter p (take (suc i) xs)) ≡ last_or o (filter p (take i xs))
  passed [] i x e f o = cc
  passed (y ∷ ys) zero x e f o = let same : y ≡ x = cc in rw (same, f) refl
  passed (y ∷ ys) (suc i) x e f o = last_of_cond o (p y) y (take (suc i) ys) (take i ys)
      (passed ys i x e f)

  found_cond : (o : Option A) (b : Bool) (y x : A) (ys : List A)
      → ((o' : Option A) → last_or o' (filter p ys) ≡ Some x)
      → last_or o (cond b (y ∷ filter p ys) (filter p ys)) ≡ Some x
  found_cond o true y x ys h = h (Some y)
  found_cond o false y x ys h = h o

  found : (xs : List A) (i : ℕ) (x : A) → slice_get xs i ≡ Some x → p x ≡ true → (o : Option A)
      → last_or o (filter p (take (suc i) xs)) ≡ Some x
  found [] i x e f o = cc
  found (y ∷ ys) zero x e f o = let same : y ≡ x = cc in rw (same, f) refl
  found (y ∷ ys) (suc i) x e f o = found_cond o (p y) y x (take (suc i) ys) (found ys i x e f)

-- a line that doesn't pass is not the last that does
pub last_passed : {A : Type 0} (p : A → Bool) (xs : List A) (i n : ℕ) (x : A) → i + 1 ≡ n
    → slice_get xs i ≡ Some x → p x ≡ false → last_or None (filter p (take n xs)) ≡ last_or None
    (filter p (take i xs))
last_passed p xs i n x h e f = rw (← h, add-one) (passed p xs i x e f None)

-- a line that passes is the last that does, among those up to it
pub last_found : {A : Type 0} (p : A → Bool) (xs : List A) (i n : ℕ) (x : A) → i + 1 ≡ n
    → slice_get xs i ≡ Some x → p x ≡ true → last_or None (filter p (take n xs)) ≡ Some x
last_found p xs i n x h e f = rw (← h, add-one) (found p xs i x e f None)

pub drop-next : {A : Type 0} (xs : List A) (i : ℕ) (x : A) → slice_get xs i ≡ Some x
    → drop i xs ≡ x ∷ drop (i + 1) xs
drop-next [] i x e = cc
drop-next (y ∷ ys) zero x e = let same : y ≡ x = cc in rw same refl
drop-next (y ∷ ys) (suc i) x e = rw add-one (drop-next ys i x e ∙ rw add-one refl)

any_cond : {A : Type 0} (p : A → Bool) (o : Option A) (b : Bool) (x : A) (xs : List A)
    → ((o' : Option A) → is_some (last_or o' (filter p xs)) ≡ (is_some o' || list_any p xs))
    → is_some (last_or o (cond b (x ∷ filter p xs) (filter p xs)))
    ≡ (is_some o || (b || list_any p xs))
any_cond p None true x xs h = h (Some x)
any_cond p (Some y) true x xs h = h (Some x)
any_cond p o false x xs h = h o

some_last : {A : Type 0} (p : A → Bool) (xs : List A) (o : Option A)
    → is_some (last_or o (filter p xs)) ≡ (is_some o || list_any p xs)
some_last p [] None = refl
some_last p [] (Some y) = refl
some_last p (x ∷ xs) o = any_cond p o (p x) x xs (some_last p xs)

-- there is a last line that covers the path where some line does
pub is_some_covering : (subs : List SubValue) (path : Path) → is_some (covering subs path)
    ≡ list_any (covers path) subs
is_some_covering subs path = some_last (covers path) subs None
