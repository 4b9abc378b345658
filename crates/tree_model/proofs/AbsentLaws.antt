-- The absent operands are those without an entry.
use Rattle.std.proofs.Common.{◌≡◌, ap, refl, subst, ℕ, zero, suc, ◌+◌, ◌<◌, ◌≤◌, Bool, true, false}
use Rattle.std.proofs.Common.{cond, List, [], ◌∷◌, length, get_or, arith, inl, inr}
use Rattle.std.specs.Prelude.{Option, Some, None, is_some}
use Rattle.std.specs.List.{AllPairs}
use Rattle.std.proofs.lemmas.List.Elements.{Contains-get_or}
use Rattle.file_paths.specs.Path.{Path}
use Rattle.find_records.specs.Record.{Record}
use Rattle.tree_model.specs.Laws.{AreAbsent}
use Rattle.tree_model.specs.Selection.{absent_from}
use Rattle.tree_model.specs.Tree.{find_in}
use Rattle.tree_model.proofs.Members.{Has, contains_from_has, has_from_contains}

none_from : (o : Option ℕ) → is_some o ≡ false → o ≡ None
none_from None h = refl
none_from (Some e) h = cc

-- an operand without an entry, where the first one has this index
record HasNone (index : ℕ) (entries : List Record) (paths : List Path) (i : ℕ) : Type 0 where
  place : ℕ
  index_is : index + place ≡ i
  within : place < length paths
  none : find_in (get_or paths place []) entries ≡ None

none_behind : (index : ℕ) (entries : List Record) (path : Path) (paths : List Path) (i : ℕ)
    → HasNone (suc index) entries paths i → HasNone index entries (path ∷ paths) i
none_behind index entries path paths i h =
    record {
      place = suc h.place;
      index_is = omega (arith, h.index_is);
      within = omega
          (arith, h.within);
      none = h.none;
    }

absent_case : (index : ℕ) (entries : List Record) (path : Path) (paths : List Path) (i : ℕ)
    (b : Bool) → is_some (find_in path entries) ≡ b
    → (Has (absent_from (suc index) entries paths) i → HasNone (suc index) entries paths i)
    → Has (cond b (absent_from (suc index) entries paths)
    (index ∷ absent_from (suc index) entries paths)) i → HasNone index entries (path ∷ paths) i
absent_case index entries path paths i true e f h = none_behind index entries path paths i (f h)
absent_case index entries path paths i false e f (inl own) =
    record {
      place = zero;
      index_is = omega (arith, own);
      within = omega arith;
      none = none_from
          (find_in path entries) e;
    }
absent_case index entries path paths i false e f (inr t) =
    none_behind index entries path paths i (f t)

absent_has : (index : ℕ) (entries : List Record) (paths : List Path) (i : ℕ)
    → Has (absent_from index entries paths) i → HasNone index entries paths i
absent_has index entries [] i h = absurd h
absent_has index entries (path ∷ paths) i h =
    absent_case index entries path paths i (is_some (find_in path entries)) refl
    (absent_has (suc index) entries paths i) h

kept_behind : (b : Bool) (index i : ℕ) (rest : List ℕ) → Has rest i
    → Has (cond b rest (index ∷ rest)) i
kept_behind true index i rest h = h
kept_behind false index i rest h = inr h

kept_here : (b : Bool) (index i : ℕ) (rest : List ℕ) → b ≡ false → index ≡ i
    → Has (cond b rest (index ∷ rest)) i
kept_here true index i rest e same = cc
kept_here false index i rest e same = inl same

has_absent : (index : ℕ) (entries : List Record) (paths : List Path) (place i : ℕ)
    → index + place ≡ i → place < length paths → find_in (get_or paths place []) entries ≡ None
    → Has (absent_from index entries paths) i
has_absent index entries [] place i e l h = absurd (omega (arith, l))
has_absent index entries (path ∷ paths) zero i e l h =
    kept_here (is_some (find_in path entries)) index i (absent_from (suc index) entries paths)
    (ap is_some h) (omega (arith, e))
has_absent index entries (path ∷ paths) (suc place) i e l h =
    kept_behind (is_some (find_in path entries)) index i (absent_from (suc index) entries paths)
    (has_absent (suc index) entries paths place i (omega (arith, e)) (omega (arith, l)) h)

-- ---- their order

abbrev Ascends : List ℕ → Type 0
Ascends [] = Unit {0}
Ascends (x ∷ xs) = ((y : ℕ) → Has xs y → x < y) × Ascends xs

low : (index : ℕ) (entries : List Record) (paths : List Path) (i : ℕ)
    → Has (absent_from index entries paths) i → index ≤ i
low index entries paths i h = let n = absent_has index entries paths i h in
    omega (arith, n.index_is)

ascends_case : (b : Bool) (index : ℕ) (rest : List ℕ) → Ascends rest
    → ((y : ℕ) → Has rest y → index < y) → Ascends (cond b rest (index ∷ rest))
ascends_case true index rest a f = a
ascends_case false index rest a f = (f, a)

ascends : (index : ℕ) (entries : List Record) (paths : List Path)
    → Ascends (absent_from index entries paths)
ascends index entries [] = tt
ascends index entries (path ∷ paths) =
    ascends_case (is_some (find_in path entries)) index (absent_from (suc index) entries paths)
    (ascends (suc index) entries paths)
    (λ y h. let l = low (suc index) entries paths y h in omega (arith, l))

pairs_of : (xs : List ℕ) → Ascends xs → AllPairs (λ i j. i < j) xs
pairs_of [] a i j d l m = absurd (omega arith)
pairs_of (x ∷ xs) a zero zero d l m = absurd (omega arith)
pairs_of (x ∷ xs) a (suc i) zero d l m = absurd (omega arith)
pairs_of (x ∷ xs) a zero (suc j) d l m =
    a.0 (get_or xs j d)
    (has_from_contains xs (get_or xs j d) (Contains-get_or xs j d (omega arith)))
pairs_of (x ∷ xs) a (suc i) (suc j) d l m = pairs_of xs a.1 i j d (omega arith) (omega arith)

pub absent_are : (entries : List Record) (operands : List Path)
    → AreAbsent entries operands (absent_from 0 entries operands)
absent_are entries operands = record {
  each = λ i. (
    λ c. let n =
        absent_has 0 entries operands i (has_from_contains (absent_from 0 entries operands) i c) in
        let same : n.place ≡ i = omega (arith, n.index_is) in
        subst (λ k. (k < length operands) × (find_in (get_or operands k []) entries ≡ None)) same
        (n.within, n.none),
    λ h. contains_from_has (absent_from 0 entries operands) i
        (has_absent 0 entries operands i i (omega arith) h.0 h.1),
  );
  rising = pairs_of (absent_from 0 entries operands) (ascends 0 entries operands);
}
