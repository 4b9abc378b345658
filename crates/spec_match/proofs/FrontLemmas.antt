-- The fronts of literal starts that end with a slash, by their hashes.
use Rattle.std.proofs.Common.{◌≡◌, ◌∙◌, refl, sym, ap, subst, ℕ, zero, suc, ◌+◌, ◌/◌, ◌%◌, ◌^◌, ◌<◌}
use Rattle.std.proofs.Common.{◌≤◌, ◌⊎◌, inl, inr, List, [], ◌∷◌, ◌++◌, Some, length, get_or, map}
use Rattle.std.proofs.Common.{drop, append_assoc, append-nil, arith}
use Rattle.std.specs.Prelude.{slice_index}
use Rattle.std.specs.List.{Contains}
use Rattle.std.specs.List.Sorted.{IsNonDecreasing, IsNonDecreasingBy}
use Rattle.std.proofs.lemmas.Bool.{cases_lt}
use Rattle.std.proofs.lemmas.List.{drop_all, drop_more, get_or_default}
use Rattle.std.proofs.lemmas.List.Sorted.{Contains-permutation}
use Rattle.file_paths.specs.Path.{Path, path_text}
use Rattle.file_paths.specs.declared.path.TheConstants.{SLASH}
use Rattle.pattern_syntax.proofs.BehindLemmas.{cut_behind_start}
use Rattle.pattern_match.proofs.Quotients.{below_shows}
use Rattle.pattern_match.specs.States.{Below}
use Rattle.pattern_syntax.specs.Language.{Opens}
use Rattle.pattern_syntax.specs.Literal.{literal_start_of}
use Rattle.pattern_syntax.specs.Tree.{Tree, Nothing}
use Rattle.spec_match.specs.Alive.{pattern_at}
use Rattle.spec_match.specs.Chains.{hashed, mixed}
use Rattle.spec_match.specs.Found.{AreAddedAbove, AreAddedBelow, AreFound, CanDecideAt, IsAdded}
use Rattle.spec_match.specs.Found.{IsAddedOf, front_text}
use Rattle.spec_match.specs.Fronts.{AreFronts, all_keys, front_key, front_keys, key_if}
use Rattle.spec_match.specs.StatesFor.{patterns_of, spec_in}
use Rattle.spec_match.specs.declared.fronts.TheConstants.{SPAN}
use Rattle.spec_match.specs.declared.compiled_spec.CompiledSpec.{CompiledSpec}
use Rattle.spec_match.proofs.AnswerLemmas.{count_rules, pattern_of_rule}
use Rattle.spec_match.proofs.ChainLemmas.{before_or_last}
use Rattle.spec_match.proofs.LastLemmas.{at_place}
use Rattle.spec_match.proofs.FoundLemmas.{added_as, added_none, added_then, contains_left}
use Rattle.spec_match.proofs.FoundLemmas.{contains_right, decides_within}
use Rattle.spec_reader.specs.SpecValue.{SpecValue}

-- ---- the keys are written

pub fronts_on : (start : List ℕ) (i k hash next : ℕ) (keys new all : List ℕ) → k < length start
    → next ≡ mixed hash (get_or start k 0) → new ≡ keys ++ key_if (get_or start k 0) next i
    → keys ++ front_keys i hash (drop k start) ≡ all → new ++ front_keys i next (drop (k + 1) start)
    ≡ all
fronts_on start i k hash next keys new all l e n a =
    let b = get_or start k 0 in
    let rest = drop (k + 1) start in
    ap (λ w. w ++ front_keys i next rest) n ∙ append_assoc keys (key_if b next i)
    (front_keys i next rest)
    ∙ ap (λ h. keys ++ (key_if b h i ++ front_keys i h rest)) e
    ∙ sym (ap (λ w. keys ++ front_keys i hash w) (drop_more start k 0 l)) ∙ a

pub fronts_end : (start : List ℕ) (i k hash : ℕ) (keys all : List ℕ) → length start ≤ k
    → keys ++ front_keys i hash (drop k start) ≡ all → keys ≡ all
fronts_end start i k hash keys all l a = sym (append-nil keys)
    ∙ sym (ap (λ w. keys ++ front_keys i hash w) (drop_all k start l)) ∙ a

pub keys_on : (patterns : List Tree) (i : ℕ) (start keys new all : List ℕ) → i < length patterns
    → start ≡ literal_start_of (pattern_at patterns i) → new ≡ keys ++ front_keys i 0 start
    → keys ++ all_keys i (drop i patterns) ≡ all → new ++ all_keys (i + 1) (drop (i + 1) patterns)
    ≡ all
keys_on patterns i start keys new all l e n a =
    let rest = all_keys (i + 1) (drop (i + 1) patterns) in
    ap (λ w. w ++ rest) n ∙ append_assoc keys (front_keys i 0 start) rest
    ∙ ap (λ s. keys ++ (front_keys i 0 s ++ rest)) e
    ∙ sym (ap (λ w. keys ++ all_keys i w) (drop_more patterns i Nothing l)) ∙ a

pub keys_end : (patterns : List Tree) (i : ℕ) (keys all : List ℕ) → length patterns ≤ i
    → keys ++ all_keys i (drop i patterns) ≡ all → keys ≡ all
keys_end patterns i keys all l a = sym (append-nil keys)
    ∙ sym (ap (λ w. keys ++ all_keys i w) (drop_all i patterns l)) ∙ a

-- ---- they are looked for

not_slower : (x y : ℕ) → x ≤ y → x / SPAN ≤ y / SPAN
not_slower x y l = omega (arith, l)

pub by_hash : (keys : List ℕ) → IsNonDecreasing keys → IsNonDecreasingBy (λ x. x / SPAN) keys
by_hash keys h = λ i j d a b. not_slower (get_or keys i d) (get_or keys j d) (h i j d a b)

hash_of_key : (hash i : ℕ) → i < 2 ^ 32 → front_key hash i / SPAN ≡ hash
hash_of_key hash i l = omega (arith, l)

index_of_key : (hash i : ℕ) → i < 2 ^ 32 → front_key hash i % SPAN ≡ i
index_of_key hash i l = omega (arith, l)

module _ (path : Path) (rules : List CompiledSpec) (keys : List ℕ) where
  -- those were tried whose keys stand from one place on and before another
  abbrev pub AreAddedFrom : ℕ → ℕ → List ℕ → List ℕ → Type 0
  AreAddedFrom first at =
      IsAdded path (map spec_in rules) (λ j. (p : ℕ) × (first ≤ p) × (p < at)
      × (slice_index keys p % SPAN ≡ j))

  pub from_begun : (first : ℕ) (old : List ℕ) → AreAddedFrom first first old old
  from_begun first old =
      added_none path (map spec_in rules) (λ j. (p : ℕ) × (first ≤ p) × (p < first)
      × (slice_index keys p % SPAN ≡ j)) old (λ j q d. let a = q.1 in let b = q.2 in
      absurd (omega (arith, a, b)))

  pub from_on : (first at key : ℕ) (old mid new : List ℕ) → key ≡ slice_index keys at
      → AreAddedFrom first at old mid → IsAddedOf path rules key mid new
      → AreAddedFrom first (at + 1) old new
  from_on first at key old mid new e a b =
      added_then path (map spec_in rules)
      (λ j. (p : ℕ) × (first ≤ p) × (p < at) × (slice_index keys p % SPAN ≡ j))
      (λ j. key % SPAN ≡ j)
      (λ j. (p : ℕ) × (first ≤ p) × (p < at + 1) × (slice_index keys p % SPAN ≡ j))
      old mid new
      (λ j r d. elim (before_or_last r.0 at r.2) [
        | inl low ↦ inl (r.0, r.1, low, r.3)
        | inr last ↦ inr (ap (λ k. k % SPAN) (e ∙ ap (slice_index keys) last) ∙ r.3)
      ])
      a b

  pub from_all : (first end at hash : ℕ) (old new : List ℕ) → length rules < 2 ^ 32 → end ≤ at
      → ((k : ℕ) → k < length keys → (k < first → slice_index keys k / SPAN < hash)
      × (first ≤ k → hash ≤ slice_index keys k / SPAN))
      → ((k : ℕ) → k < length keys → (k < end → slice_index keys k / SPAN ≤ hash)
      × (end ≤ k → hash < slice_index keys k / SPAN))
      → AreAddedFrom first at old new → AreAddedBelow path rules keys hash old new
  from_all first end at hash old new small past low high a =
      added_as path (map spec_in rules)
      (λ j. (p : ℕ) × (first ≤ p) × (p < at) × (slice_index keys p % SPAN ≡ j))
      (λ j. Contains keys (front_key hash j))
      old new
      (λ j q d. placed j q (let l = decides_within path rules j d in omega (arith, l, small)))
      a
    where
      placed : (j : ℕ) → Contains keys (front_key hash j) → j < 2 ^ 32 → (p : ℕ) × (first ≤ p)
          × (p < at) × (slice_index keys p % SPAN ≡ j)
      placed j (p, l, e) s =
          let key : slice_index keys p ≡ front_key hash j =
          get_or_default keys p 0 (front_key hash j) l ∙ e in
          let own : slice_index keys p / SPAN ≡ hash = ap (λ k. k / SPAN) key
          ∙ hash_of_key hash j s in (
            p,
            elim (cases_lt p first) [
              | inl before ↦ (let less = (low p l).0 before in absurd (omega (arith, less, own)))
              | inr from ↦ from
            ],
            elim (cases_lt p end) [
              | inl before ↦ omega (arith, before, past)
              | inr from ↦
                  (let more = (high p l).1 from in absurd (omega (arith, more, own)))
            ],
            ap (λ k. k % SPAN) key ∙ index_of_key hash j s,
          )

-- ---- what can decide begins as the path does, or goes on behind it

parted : (front start more cut : List ℕ) (c : ℕ) → front ++ c ∷ more ≡ start ++ cut
    → ((rest : List ℕ) × (front ≡ start ++ rest)) ⊎ ((rest : List ℕ) × (start ≡ front ++ c ∷ rest))
parted front [] more cut c e = inl (front, refl)
parted [] (d ∷ start) more cut c e = let f : d ≡ c = cc in inr (start, ap (λ x. x ∷ start) f)
parted (b ∷ front) (d ∷ start) more cut c e =
    let first : b ≡ d = cc in
    let rest : front ++ c ∷ more ≡ start ++ cut = cc in
    elim (parted front start more cut c rest) [
      | inl w ↦ inl (w.0, ap (λ x. x ∷ front) first ∙ ap (λ x. d ∷ x) w.1)
      | inr w ↦ inr (w.0, ap (λ x. x ∷ start) (sym first) ∙ ap (λ x. b ∷ x) w.1)
    ]

abbrev IsNear : Tree → List ℕ → Type 0
IsNear tree front = ((rest : List ℕ) × (front ≡ literal_start_of tree ++ rest)) ⊎
    ((rest : List ℕ) × (literal_start_of tree ≡ front ++ SLASH ∷ rest))

opens_near : (tree : Tree) (front : List ℕ) → Opens tree (front ++ SLASH ∷ []) → IsNear tree front
opens_near tree front (more, i) =
    let cut = (cut_behind_start tree ((front ++ SLASH ∷ []) ++ more)).0 i in
    parted front (literal_start_of tree) more cut.0 SLASH
    (sym (append_assoc front (SLASH ∷ []) more) ∙ cut.1)

below_near : (tree : Tree) (path : Path) → Below tree path → IsNear tree (front_text path)
below_near tree [] o = opens_near tree [] o
below_near tree (name ∷ names) (inr o) = opens_near tree (path_text (name ∷ names)) o
below_near tree (name ∷ names) (inl i) = let cut =
    (cut_behind_start tree (path_text (name ∷ names))).0 i in inl (cut.0, cut.1)

-- a front that ends with a slash has its key
own_key : (i hash : ℕ) (front rest : List ℕ) → Contains (front_keys i hash (front ++ SLASH ∷ rest))
    (front_key (mixed (hashed hash front) SLASH) i)
own_key i hash [] rest = contains_left (key_if SLASH (mixed hash SLASH) i)
    (front_keys i (mixed hash SLASH) rest) (front_key (mixed hash SLASH) i) (0, omega arith, refl)
own_key i hash (b ∷ front) rest =
    contains_right (key_if b (mixed hash b) i) (front_keys i (mixed hash b) (front ++ SLASH ∷ rest))
    (front_key (mixed (hashed (mixed hash b) front) SLASH) i)
    (own_key i (mixed hash b) front rest)

in_all : (patterns : List Tree) (n i : ℕ) (key : ℕ) → i < length patterns
    → Contains (front_keys (n + i) 0 (literal_start_of (pattern_at patterns i))) key
    → Contains (all_keys n patterns) key
in_all [] n i key l h = absurd (omega (arith, l))
in_all (p ∷ patterns) n zero key l h =
    let e : n + 0 ≡ n = omega arith in
    contains_left (front_keys n 0 (literal_start_of p)) (all_keys (n + 1) patterns) key
    (subst (λ k. Contains (front_keys k 0 (literal_start_of p)) key) e h)
in_all (p ∷ patterns) n (suc i) key l h =
    let e : n + suc i ≡ (n + 1) + i = omega arith in
    contains_right (front_keys n 0 (literal_start_of p)) (all_keys (n + 1) patterns) key
    (in_all patterns (n + 1) i key (omega (arith, l))
    (subst (λ k. Contains (front_keys k 0 (literal_start_of (pattern_at patterns i))) key) e h))

key_there : (patterns : List Tree) (keys : List ℕ) (i : ℕ) (front rest : List ℕ)
    → AreFronts patterns keys → i < length patterns → literal_start_of (pattern_at patterns i)
    ≡ front ++ SLASH ∷ rest → Contains keys (front_key (mixed (hashed 0 front) SLASH) i)
key_there patterns keys i front rest fronts l e =
    let key = front_key (mixed (hashed 0 front) SLASH) i in
    let same : i ≡ 0 + i = omega arith in
    Contains-permutation (all_keys 0 patterns) keys key fronts.same
    (in_all patterns 0 i key l
    (subst (λ n. Contains (front_keys n 0 (literal_start_of (pattern_at patterns i))) key) same
    (subst (λ w. Contains (front_keys i 0 w) key) (sym e) (own_key i 0 front rest))))

tree_at : (path : Path) (rules : List CompiledSpec) (i : ℕ)
    (d : CanDecideAt path (map spec_in rules) i)
    → d.0.pattern ≡ pattern_at (patterns_of rules) i
tree_at path [] i d = let l = decides_within path [] i d in absurd (omega (arith, l))
tree_at path (r ∷ rules) i d =
    let l = decides_within path (r ∷ rules) i d in
    let e : Some d.0 ≡ Some (spec_in (get_or (r ∷ rules) i r)) =
    sym d.1 ∙ at_place (r ∷ rules) i r l in
    let s : d.0 ≡ spec_in (get_or (r ∷ rules) i r) = cc in
    ap (λ (w : SpecValue). w.pattern) s ∙ pattern_of_rule (r ∷ rules) i r l

-- all of them are found
pub all_found : (path : Path) (rules : List CompiledSpec) (keys text : List ℕ) (hash below : ℕ)
    (none mid new : List ℕ) → none ≡ [] → text ≡ front_text path → hash ≡ hashed 0 text
    → below ≡ mixed hash SLASH → AreFronts (patterns_of rules) keys
    → AreAddedAbove path rules text none mid → AreAddedBelow path rules keys below mid new
    → AreFound path (map spec_in rules) new
all_found path rules keys text hash below none mid new empty same own goes fronts a b = record {
  right = b.right
      (a.right (λ i h. let l = h.1 in
      absurd (omega (arith, l, ap (λ (w : List ℕ). length w) empty))));
  all = λ i d.
      let within = decides_within path rules i d in
      let near = below_near (pattern_at (patterns_of rules) i) path
      (subst (λ t. Below t path) (tree_at path rules i d)
      ((below_shows d.0.pattern path).0 d.2)) in
      let key = goes ∙ ap (λ h. mixed h SLASH) (own ∙ ap (hashed 0) same) in
      elim near [
        | inl w ↦ b.kept i (a.all i (w.0, same ∙ w.1) d)
        | inr w ↦ b.all i
            (subst (λ h. Contains keys (front_key h i)) (sym key)
            (key_there (patterns_of rules) keys i (front_text path) w.0 fronts
            (omega (arith, within, count_rules rules)) w.1)) d
      ];
}
