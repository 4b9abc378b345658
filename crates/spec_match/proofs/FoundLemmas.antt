-- The specifications that can decide at or below a path are found one after the other.
use Rattle.std.proofs.Common.{◌≡◌, ◌∙◌, refl, sym, ap, subst, ℕ, zero, suc, ◌+◌, ◌<◌, ◌≤◌, ◌⊎◌, inl}
use Rattle.std.proofs.Common.{inr, Bool, true, false, cond, List, [], ◌∷◌, ◌++◌, Some, length}
use Rattle.std.proofs.Common.{length-append, get_or, map, take, eq-eqb, arith}
use Rattle.std.specs.Prelude.{slice_get}
use Rattle.std.specs.List.{Contains, dedup}
use Rattle.std.specs.List.Sorted.{IsPermutation, IsSorted}
use Rattle.std.specs.Ordering.{nat_cmp}
use lib.Dec.{eqb}
use Rattle.std.proofs.Math.Nat.{zero-mod}
use Rattle.std.proofs.Math.Seq.{take-append_seam}
use Rattle.std.proofs.lemmas.Bool.{cases_lt}
use Rattle.std.proofs.lemmas.List.{length-map}
use Rattle.file_paths.specs.Path.{Path}
use Rattle.label_base.specs.Bounded.{greatest_below}
use Rattle.label_base.proofs.BoundedLemmas.{IsGreatest, greatest_shown}
use Rattle.pattern_syntax.specs.Literal.{literal_start_of}
use Rattle.spec_match.specs.Alive.{pattern_at}
use Rattle.spec_match.specs.Chains.{bucket_of, is_in_bucket, link, own_bucket, starts_at}
use Rattle.spec_match.specs.Found.{AreAddedAbove, AreAddedIn, AreFound, CanDecideAt, IsAdded}
use Rattle.spec_match.specs.Found.{IsAddedFrom, IsAddedOne}
use Rattle.spec_match.specs.Relevant.{can_decide, relevant_at}
use Rattle.spec_match.specs.StatesFor.{patterns_of, spec_in}
use Rattle.spec_match.specs.declared.compiled_spec.CompiledSpec.{CompiledSpec}
use Rattle.spec_match.proofs.ChainLemmas.{before_or_last, linked, unlinked}
use Rattle.spec_match.proofs.LastLemmas.{at_place}
use Rattle.spec_match.proofs.PickedLemmas.{At, Has, contains_had, has_contained, picked_at}
use Rattle.spec_match.proofs.PickedLemmas.{picked_sorted}
use Rattle.spec_reader.specs.SpecValue.{SpecValue}

had_left : (xs ys : List ℕ) (i : ℕ) → Has xs i → Has (xs ++ ys) i
had_left [] ys i h = absurd h
had_left (x ∷ xs) ys i (inl e) = inl e
had_left (x ∷ xs) ys i (inr h) = inr (had_left xs ys i h)

had_right : (xs ys : List ℕ) (i : ℕ) → Has ys i → Has (xs ++ ys) i
had_right [] ys i h = h
had_right (x ∷ xs) ys i h = inr (had_right xs ys i h)

had_parts : (xs ys : List ℕ) (i : ℕ) → Has (xs ++ ys) i → Has xs i ⊎ Has ys i
had_parts [] ys i h = inr h
had_parts (x ∷ xs) ys i (inl e) = inl (inl e)
had_parts (x ∷ xs) ys i (inr h) = elim (had_parts xs ys i h) [ inl a ↦ inl (inr a) | inr b ↦ inr b ]

pub contains_left : (xs ys : List ℕ) (i : ℕ) → Contains xs i → Contains (xs ++ ys) i
contains_left xs ys i h = contains_had (xs ++ ys) i (had_left xs ys i (has_contained xs i h))

pub contains_right : (xs ys : List ℕ) (i : ℕ) → Contains ys i → Contains (xs ++ ys) i
contains_right xs ys i h = contains_had (xs ++ ys) i (had_right xs ys i (has_contained ys i h))

pushed : (xs : List ℕ) (x i : ℕ) → Contains (xs ++ x ∷ []) i → Contains xs i ⊎ (x ≡ i)
pushed xs x i h = elim (had_parts xs (x ∷ []) i (has_contained (xs ++ x ∷ []) i h)) [
  | inl a ↦ inl (contains_had xs i a)
  | inr b ↦ elim b [ inl e ↦ inr e | inr n ↦ absurd n ]
]

module _ (path : Path) (specs : List SpecValue) where
  pub added_none : (P : ℕ → Type 0) (old : List ℕ) → ((i : ℕ) → P i → CanDecideAt path specs i → ⊥)
      → IsAdded path specs P old old
  added_none P old none =
      record { kept = λ i h. h; right = λ f. f; all = λ i p d. absurd (none i p d) }

  pub added_then : (P Q R : ℕ → Type 0) (old mid new : List ℕ)
      → ((i : ℕ) → R i → CanDecideAt path specs i → P i ⊎ Q i) → IsAdded path specs P old mid
      → IsAdded path specs Q mid new → IsAdded path specs R old new
  added_then P Q R old mid new parts a b = record {
    kept = λ i h. b.kept i (a.kept i h);
    right = λ f. b.right (a.right f);
    all = λ i r d. elim (parts i r d) [ inl p ↦ b.kept i (a.all i p d) | inr q ↦ b.all i q d ];
  }

  pub added_as : (P Q : ℕ → Type 0) (old new : List ℕ)
      → ((i : ℕ) → Q i → CanDecideAt path specs i → P i) → IsAdded path specs P old new
      → IsAdded path specs Q old new
  added_as P Q old new f a =
      record { kept = a.kept; right = a.right; all = λ i q d. a.all i (f i q d) d }

  one_by : (v : Bool) (i : ℕ) (spec : SpecValue) (old : List ℕ) → slice_get specs i ≡ Some spec
      → can_decide path spec ≡ v → IsAdded path specs (λ j. j ≡ i) old (cond v (old ++ i ∷ []) old)
  one_by true i spec old e t = record {
    kept = λ j h. contains_left old (i ∷ []) j h;
    right = λ f j h. elim (pushed old i j h)
        [ inl a ↦ f j a | inr s ↦ subst (CanDecideAt path specs) s (spec, e, t) ];
    all = λ j s d. contains_right old (i ∷ []) j (0, omega arith, sym s);
  }
  one_by false i spec old e t = record {
    kept = λ j h. h;
    right = λ f. f;
    all = λ j s d. let c : Some d.0 ≡ Some spec = sym d.1 ∙ ap (slice_get specs) s ∙ e in
        let f : d.0 ≡ spec = cc in let g : true ≡ false = sym d.2 ∙ ap (can_decide path) f ∙ t in
        cc;
  }

  pub added_one : (v : Bool) (i : ℕ) (spec : SpecValue) (old new : List ℕ)
      → slice_get specs i ≡ Some spec → v ≡ can_decide path spec → new ≡ cond v (old ++ i ∷ []) old
      → IsAdded path specs (λ j. j ≡ i) old new
  added_one v i spec old new e t n = subst (IsAdded path specs (λ j. j ≡ i) old) (sym n)
      (one_by v i spec old e (sym t))

  at_to : (n i : ℕ) (ss : List SpecValue) → At (can_decide path) n ss i → (k : ℕ)
      × (spec : SpecValue) × (i ≡ n + k) × (slice_get ss k ≡ Some spec)
      × (can_decide path spec ≡ true)
  at_to n i [] a = absurd a
  at_to n i (s ∷ ss) (inl a) = (0, s, (let e = a.0 in omega (arith, e)), refl, a.1)
  at_to n i (s ∷ ss) (inr a) = let r = at_to (n + 1) i ss a in let e = r.2 in
      (suc r.0, r.1, omega (arith, e), r.3, r.4)

  pub found_sorted : (found sorted left : List ℕ) → AreFound path specs found
      → IsPermutation found sorted → IsSorted nat_cmp sorted → left ≡ dedup eqb sorted
      → left ≡ relevant_at path specs
  unfolding relevant_at
  found_sorted found sorted left h p s e =
      e ∙ picked_sorted (can_decide path) specs found sorted
      (λ i m. let d = h.right i (contains_had found i m) in let same : 0 + i ≡ i = omega arith in
      subst (At (can_decide path) 0 specs) same
      (picked_at (can_decide path) 0 i specs d.0 d.1 d.2))
      (λ i a. let r = at_to 0 i specs a in let e = r.2 in let same : r.0 ≡ i = omega (arith, e) in
      has_contained found i (h.all i (subst (CanDecideAt path specs) same (r.1, r.3, r.4)))) p s

-- a specification that was tried, by its place
pub added_rule : (path : Path) (rules : List CompiledSpec) (i : ℕ) (rule : CompiledSpec) (v : Bool)
    (old new : List ℕ) → i < length rules → rule ≡ get_or rules i rule
    → v ≡ can_decide path rule.spec → new ≡ cond v (old ++ i ∷ []) old
    → IsAddedOne path rules i old new
added_rule path rules i rule v old new l e t n =
    added_one path (map spec_in rules) v i rule.spec old new
    (at_place rules i rule l ∙ ap (λ (r : CompiledSpec). Some (spec_in r)) (sym e)) t n

-- ---- those whose literal start a text begins with

abbrev start_of : List CompiledSpec → ℕ → List ℕ
start_of rules i = literal_start_of (pattern_at (patterns_of rules) i)

greatest_here : (bound i : ℕ) (p : ℕ → Bool) (next : ℕ) → suc i ≡ next
    → next ≡ link (greatest_below bound p) → IsGreatest bound p (Some i)
greatest_here bound i p next here leads =
    subst (IsGreatest bound p) (linked (greatest_below bound p) i (here ∙ leads))
    (greatest_shown bound p)

module _ (path : Path) (rules : List CompiledSpec) (count bucket at : ℕ) where
  -- of those in a bucket the ones from some specification on were tried
  pub record IsGoing (next : ℕ) (old new : List ℕ) : Type 0 where
    pub bound : ℕ
    pub within : bound ≤ length rules
    pub leads : next ≡ link (greatest_below bound (is_in_bucket rules count bucket))
    pub added : IsAdded path (map spec_in rules) (λ j. (bound ≤ j) × (j < length rules)
        × (is_in_bucket rules count bucket j ≡ true) × (starts_at rules at j ≡ true)) old new

  pub going_begun : (next : ℕ) (old : List ℕ)
      → next ≡ link (greatest_below (length rules) (is_in_bucket rules count bucket))
      → IsGoing next old old
  going_begun next old leads = record {
    bound = length rules;
    within = omega arith;
    leads = leads;
    added = added_none path (map spec_in rules) (λ j. (length rules ≤ j) × (j < length rules)
        × (is_in_bucket rules count bucket j ≡ true) × (starts_at rules at j ≡ true)) old
        (λ i p d. let a = p.0 in let b = p.1 in absurd (omega (arith, a, b)));
  }

  pub going_in : (next i : ℕ) (old new : List ℕ) → suc i ≡ next → IsGoing next old new
      → is_in_bucket rules count bucket i ≡ true
  going_in next i old new here g =
      (greatest_here g.bound i (is_in_bucket rules count bucket) next here g.leads).1

  pub going_on : (next i known : ℕ) (old mid new : List ℕ) → suc i ≡ next → IsGoing next old mid
      → IsAddedFrom path rules at i mid new
      → known ≡ link (greatest_below i (is_in_bucket rules count bucket)) → IsGoing known old new
  going_on next i known old mid new here g tried leads =
      let p = is_in_bucket rules count bucket in
      let top = greatest_here g.bound i p next here g.leads in
      let l = top.0 in
      let w = g.within in record {
        bound = i;
        within = omega (arith, l, w);
        leads = leads;
        added = added_then path (map spec_in rules)
            (λ j. (g.bound ≤ j) × (j < length rules) × (p j ≡ true) × (starts_at rules at j ≡ true))
            (λ j. (j ≡ i) × (starts_at rules at j ≡ true))
            (λ j. (i ≤ j) × (j < length rules) × (p j ≡ true) × (starts_at rules at j ≡ true))
            old mid new
            (λ j r d. elim (cases_lt j g.bound) [
              | inl low ↦ inr (only top j r.0 low r.2, r.3)
              | inr high ↦ inl (high, r.1, r.2, r.3)
            ])
            g.added tried;
      }
    where
      only : {m i : ℕ} {p : ℕ → Bool} → IsGreatest m p (Some i) → (j : ℕ) → i ≤ j → j < m
          → p j ≡ true → j ≡ i
      only {m} {i} {p} top j a b t = elim (cases_lt i j) [
        | inl above ↦ (let none : true ≡ false = sym t ∙ top.2 j above b in cc)
        | inr same ↦ omega (arith, a, same)
      ]

  pub going_ended : (next : ℕ) (old new : List ℕ) → next ≡ 0 → IsGoing next old new
      → AreAddedIn path rules count bucket at old new
  going_ended next old new end g =
      let p = is_in_bucket rules count bucket in
      let none = subst (IsGreatest g.bound p)
      (unlinked (greatest_below g.bound p) (sym end ∙ g.leads)) (greatest_shown g.bound p) in
      added_as path (map spec_in rules)
      (λ j. (g.bound ≤ j) × (j < length rules) × (p j ≡ true) × (starts_at rules at j ≡ true))
      (λ j. (j < length rules) × (p j ≡ true) × (starts_at rules at j ≡ true))
      old new
      (λ j q d. elim (cases_lt j g.bound) [
        | inl low ↦ (let e : true ≡ false = sym q.1 ∙ none j low in cc)
        | inr high ↦ (high, q.0, q.1, q.2)
      ])
      g.added

placed : (specs : List SpecValue) (i : ℕ) (spec : SpecValue) → slice_get specs i ≡ Some spec
    → i < length specs
placed [] i spec e = cc
placed (s ∷ specs) zero spec e = omega arith
placed (s ∷ specs) (suc i) spec e = let l = placed specs i spec e in omega (arith, l)

pub decides_within : (path : Path) (rules : List CompiledSpec) (i : ℕ)
    → CanDecideAt path (map spec_in rules) i → i < length rules
decides_within path rules i d = let l = placed (map spec_in rules) i d.0 d.1 in
    omega (arith, l, length-map rules spec_in)

module _ (path : Path) (rules : List CompiledSpec) (text : List ℕ) where
  -- those were tried whose literal start is one of the text's fronts below a length
  abbrev pub AreAddedTo : ℕ → List ℕ → List ℕ → Type 0
  AreAddedTo k =
      IsAdded path (map spec_in rules) (λ j. (m : ℕ) × (m < k) × (length (start_of rules j) ≡ m)
      × (start_of rules j ≡ take m text))

  in_front_of : (count j m : ℕ) → length (start_of rules j) ≡ m → start_of rules j ≡ take m text
      → (is_in_bucket rules count (bucket_of count (take m text)) j ≡ true)
      × (starts_at rules m j ≡ true)
  in_front_of count j m l e = (
    eq-eqb (own_bucket rules count j) (bucket_of count (take m text)) (ap (bucket_of count) e),
    eq-eqb (length (start_of rules j)) m l,
  )

  pub added_to_on : (count k b at : ℕ) (old mid new : List ℕ) → b ≡ bucket_of count (take k text)
      → at ≡ k → AreAddedTo k old mid → AreAddedIn path rules count b at mid new
      → AreAddedTo (suc k) old new
  added_to_on count k b at old mid new e f a i =
      added_then path (map spec_in rules)
      (λ j. (m : ℕ) × (m < k) × (length (start_of rules j) ≡ m) × (start_of rules j ≡ take m text))
      (λ j. (j < length rules) × (is_in_bucket rules count b j ≡ true)
      × (starts_at rules at j ≡ true))
      (λ j. (m : ℕ) × (m < suc k) × (length (start_of rules j) ≡ m)
      × (start_of rules j ≡ take m text))
      old mid new
      (λ j r d. elim (before_or_last r.0 k (let l = r.1 in omega (arith, l))) [
        | inl low ↦ inl (r.0, low, r.2, r.3)
        | inr last ↦
            (let h = in_front_of count j k (r.2 ∙ sym last)
            (subst (λ m. start_of rules j ≡ take m text) (sym last) r.3) in
            inr (
              decides_within path rules j d,
              subst (λ q. is_in_bucket rules count q j ≡ true)
                  (sym e) h.0,
              subst (λ q. starts_at rules q j ≡ true) (sym f) h.1,
            ))
      ])
      a i

  pub added_to_first : (count : ℕ) (old new : List ℕ) → AreAddedIn path rules count 0 0 old new
      → AreAddedTo 1 old new
  added_to_first count old new i =
      added_to_on count 0 0 0 old old new (sym (zero-mod count)) refl
      (added_none path (map spec_in rules) (λ j. (m : ℕ) × (m < 0) × (length (start_of rules j) ≡ m)
      × (start_of rules j ≡ take m text)) old (λ j p d. let l = p.1 in
      absurd (omega (arith, l))))
      i

  pub added_to_all : (k : ℕ) (old new : List ℕ) → k ≡ suc (length text) → AreAddedTo k old new
      → AreAddedAbove path rules text old new
  added_to_all k old new end a =
      added_as path (map spec_in rules)
      (λ j. (m : ℕ) × (m < k) × (length (start_of rules j) ≡ m) × (start_of rules j ≡ take m text))
      (λ j. (rest : List ℕ) × (text ≡ literal_start_of (pattern_at (patterns_of rules) j) ++ rest))
      old new
      (λ j q d.
      let start = literal_start_of (pattern_at (patterns_of rules) j) in
      let size = ap (λ (w : List ℕ). length w) q.1 ∙ length-append start q.0 in (
        length start,
        omega (arith, size, end),
        refl,
        sym (ap (take (length start)) q.1
            ∙ take-append_seam start q.0),
      ))
      a
