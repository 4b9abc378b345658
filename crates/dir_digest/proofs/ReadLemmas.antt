-- The listings of accepted files are those of which the bytes tell the fields.
use Rattle.std.proofs.Common.{◌≡◌, refl, subst, ℕ, zero, suc, ◌+◌, ◌<◌, ◌≤◌, Bool, true, false}
use Rattle.std.proofs.Common.{cond, List, [], ◌∷◌, drop, length, map, filter, Option, Some, None}
use Rattle.std.proofs.Common.{IfSome, slice_get, arith}
use Rattle.std.specs.List.{AllByRecursion, last_or}
use Rattle.std.proofs.lemmas.Bool.{and_parts}
use Rattle.std.proofs.lemmas.List.{length-map}
use Rattle.file_paths.proofs.PathMoves.{are_both}
use Rattle.file_paths.specs.Path.{Path, are_names, is_name}
use Rattle.path_subs.specs.Subs.{SubValue, by_last, by_sub, covering, covers, plain, substituted}
use Rattle.spec_reader.specs.SpecValue.{SpecValue}
use Rattle.spec_match.specs.Relevant.{can_decide}
use Rattle.dir_digest.specs.Listing.{listing_line, relevant}
use Rattle.dir_digest.specs.ListingBytes.{AreCountable, AreTypes, IsLine, IsListing, IsNamesSub}
use Rattle.dir_digest.proofs.NulLemmas.{reads_clean}
use Rattle.dir_digest.specs.Basis.{AreRead, IsReadSpec, Basis, listing_on}

-- ---- members of lists

filter_step : {A : Type 0} (P : A → Type 0) (x : A) (xs : List A) (b : Bool) → P x
    → AllByRecursion P xs → AllByRecursion P (cond b (x ∷ xs) xs)
filter_step P x xs true a h = (a, h)
filter_step P x xs false a h = h

pub each_filtered : {A : Type 0} (P : A → Type 0) (q : A → Bool) (xs : List A) → AllByRecursion P xs
    → AllByRecursion P (filter q xs)
each_filtered P q [] h = tt
each_filtered P q (x ∷ xs) h = filter_step P x (filter q xs) (q x) h.0 (each_filtered P q xs h.1)

fewer_step : {A : Type 0} (x : A) (xs : List A) (n : ℕ) (b : Bool) → length xs ≤ n
    → length (cond b (x ∷ xs) xs) ≤ suc n
fewer_step x xs n true h = omega (arith, h)
fewer_step x xs n false h = omega (arith, h)

fewer : {A : Type 0} (q : A → Bool) (xs : List A) → length (filter q xs) ≤ length xs
fewer q [] = omega arith
fewer q (x ∷ xs) = fewer_step x (filter q xs) (length xs) (q x) (fewer q xs)

last_has : {A : Type 0} (P : A → Type 0) (o : Option A) (xs : List A) → IfSome o P
    → AllByRecursion P xs → IfSome (last_or o xs) P
last_has P o [] h k = h
last_has P o (x ∷ xs) h k = last_has P (Some x) xs k.0 k.1

each_from : {A : Type 0} (P : A → Type 0) (xs : List A) (i : ℕ) → i < length xs
    → IfSome (slice_get xs i) P → AllByRecursion P (drop (i + 1) xs) → AllByRecursion P (drop i xs)
each_from P [] i l h rest = absurd (omega (arith, l))
each_from P (x ∷ xs) zero l h rest = (h, rest)
each_from P (x ∷ xs) (suc i) l h rest =
    let more : suc i + 1 ≡ suc (i + 1) = omega arith in
    each_from P xs i (omega (arith, l)) h
    (subst (λ k. AllByRecursion P (drop k (x ∷ xs))) more rest)

-- where it is enough that the rest are so, and the next one is, it is enough that those behind it
-- are
pub each_next : {A : Type 0} (P : A → Type 0) (xs : List A) (i : ℕ) → i < length xs
    → IfSome (slice_get xs i) P
    → (AllByRecursion P (drop i xs) → AllByRecursion P xs) → AllByRecursion P (drop (i + 1) xs)
    → AllByRecursion P xs
each_next P xs i l h enough rest = enough (each_from P xs i l h rest)

-- ---- substituted paths are names

behind_names : (n : ℕ) (path : Path) → are_names path ≡ true → are_names (drop n path) ≡ true
behind_names zero path h = h
behind_names (suc n) [] h = h
behind_names (suc n) (name ∷ path) h =
    behind_names n path (and_parts (is_name name) (are_names path) h).1

by_sub_names : (path : Path) (o : Option SubValue) → IfSome o IsNamesSub → are_names path ≡ true
    → are_names (by_sub path o) ≡ true
by_sub_names path None s h = h
by_sub_names path (Some sub) s h = are_both sub.target (drop (length sub.source) path) s.1
    (behind_names (length sub.source) path h)

by_last_names : (subs : List SubValue) (path : Path) → AllByRecursion IsNamesSub subs
    → are_names path ≡ true → are_names (by_last subs path) ≡ true
by_last_names subs path s h =
    by_sub_names path (covering subs path)
    (last_has IsNamesSub None (filter (covers path) subs) tt
    (each_filtered IsNamesSub (covers path) subs s)) h

-- ---- listings

each_line : (specs : List SpecValue) → AllByRecursion IsReadSpec specs
    → AllByRecursion IsLine (map listing_line specs)
each_line [] h = tt
each_line (spec ∷ specs) h = (
  record {
    text = reads_clean spec.text spec.pattern h.0.is_spec.pattern;
    kind = h.0.is_spec.kind;
    decision = h.0.decision;
  },
  each_line specs h.1,
)

lines_of : (specs : List SpecValue) → AreCountable IsReadSpec specs
    → AreCountable IsLine (map listing_line specs)
lines_of specs h = (omega (arith, h.0, length-map specs listing_line), each_line specs h.1)

some_of : (q : SpecValue → Bool) (specs : List SpecValue) (b : Bool) → AreCountable IsReadSpec specs
    → AreCountable IsReadSpec (cond b (filter q specs) specs)
some_of q specs true h = (omega (arith, h.0, fewer q specs), each_filtered IsReadSpec q specs h.1)
some_of q specs false h = h

listed_types : (force : Bool) (types : List (List ℕ)) → AreTypes false types
    → AreTypes force (cond force [] types)
listed_types true types h = refl
listed_types false types h = h

pub read_listing : (t : Basis) → AreRead t → (dir : Path) → are_names dir ≡ true
    → IsListing (listing_on t dir)
unfolding relevant
read_listing t h dir n =
    record {
      path = by_last_names t.second (by_last t.first dir) h.second.1
          (by_last_names t.first dir h.first.1 n);
      types = listed_types t.force t.types (h.types_few, h.types);
      first = h.first;
      second = h.second;
      lines = lines_of (relevant t.first t.second t.specs dir)
          (some_of (can_decide (substituted t.first t.second dir)) t.specs
          (plain t.first t.second dir) h.specs);
    }
