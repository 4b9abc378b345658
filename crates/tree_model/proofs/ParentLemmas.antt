-- The nearest directory above an entry, found among the entries before it.
use Rattle.std.proofs.Common.{◌≡◌, ◌∙◌, ap, sym, refl, subst, ℕ, zero, suc, ◌+◌, ◌<◌, inl, inr}
use Rattle.std.proofs.Common.{Bool, true, false, List, length, get_or, arith}
use Rattle.std.proofs.lemmas.Bool.{cases_lt, le-leb, lt-ltb, false_from_ne_true, ltb-true}
use Rattle.std.specs.Prelude.{Option, Some, None, IfSome, ◌&&◌, nat_lt}
use Rattle.std.specs.Cmp.{first_so, second_so}
use Rattle.file_paths.specs.Path.{strictly_below}
use Rattle.label_base.proofs.BoundedLemmas.{IsGreatest, greatest_is, greatest_none, greatest_shown}
use Rattle.find_records.specs.Record.{Record}
use Rattle.tree_model.specs.Extents.{EndsFrom, before, entry_at, extent_of, in_extent, is_above}
use Rattle.tree_model.specs.Extents.{is_directory, one_behind, parent_of}
use Rattle.tree_model.specs.Tree.{ByPath}
use Rattle.tree_model.proofs.AboveLemmas.{longer}
use Rattle.tree_model.proofs.ExtentLemmas.{extent_law, in_behind, in_between, rise}

-- no directory above the entry stands behind these
abbrev pub UpTo : List Record → ℕ → Option ℕ → Type 0
UpTo entries e None = (d : ℕ) → d < length entries → is_above entries e d ≡ false
UpTo entries e (Some a) =
    (a < e) × ((d : ℕ) → a < d → d < length entries → is_above entries e d ≡ false)

and_same : (v w : Bool) → (v ≡ true → w ≡ true) → (v && w) ≡ v
and_same true w f = f refl
and_same false w f = refl

turned : (v w : Bool) → (v && w) ≡ (w && v)
turned true true = refl
turned true false = refl
turned false true = refl
turned false false = refl

module _ (entries : List Record) (up : ByPath entries) where
  pub strict_is : (d e : ℕ) → d < e → e < length entries → strictly_below (entry_at entries e).path
      (entry_at entries d).path ≡ in_extent entries d e
  strict_is d e l m =
      and_same (in_extent entries d e)
      (nat_lt (length (entry_at entries d).path) (length (entry_at entries e).path))
      (λ h. lt-ltb (length (entry_at entries d).path) (length (entry_at entries e).path)
      (longer (entry_at entries e).path (entry_at entries d).path h (rise entries up d e l m)))

  in_law : (d e : ℕ) → d < e → e < length entries → in_extent entries d e
      ≡ nat_lt e (extent_of entries d)
  in_law d e l m = extent_law entries up d e (omega (arith, l, m)) m
      ∙ (let p = le-leb d e (omega (arith, l)) in rw p refl)

  pub above_is : (ends : List ℕ) (d e : ℕ) → EndsFrom 0 entries ends → d < e → e < length entries
      → (nat_lt e (get_or ends d 0) && is_directory entries d) ≡ is_above entries e d
  above_is ends d e kept l m =
      ap (λ k. nat_lt e k && is_directory entries d)
      (kept.each d (omega arith) (omega (arith, l, m)))
      ∙ turned (nat_lt e (extent_of entries d)) (is_directory entries d)
      ∙ sym (ap (λ b. is_directory entries d && b) (strict_is d e l m ∙ in_law d e l m))

  pub above_in : (d e : ℕ) → is_above entries e d ≡ true → in_extent entries d e ≡ true
  above_in d e h =
      first_so (in_extent entries d e)
      (nat_lt (length (entry_at entries d).path) (length (entry_at entries e).path))
      (second_so (is_directory entries d)
      (strictly_below (entry_at entries e).path (entry_at entries d).path) h)

  above_longer : (d e : ℕ) → is_above entries e d ≡ true → length (entry_at entries d).path
      < length (entry_at entries e).path
  above_longer d e h =
      ltb-true (length (entry_at entries d).path) (length (entry_at entries e).path)
      (second_so (in_extent entries d e)
      (nat_lt (length (entry_at entries d).path) (length (entry_at entries e).path))
      (second_so (is_directory entries d)
      (strictly_below (entry_at entries e).path (entry_at entries d).path) h))

  -- what is above an entry stands before it
  pub above_before : (d e : ℕ) → d < length entries → is_above entries e d ≡ true → d < e
  above_before d e l h =
      let from = in_behind entries up d e l (above_in d e h) in
      elim (cases_lt d e) [
        | inl lt ↦ lt
        | inr ge ↦ (let same : d ≡ e = omega (arith, from, ge) in
            let more = subst
            (λ k. length (entry_at entries d).path < length (entry_at entries k).path)
            (sym same) (above_longer d e h) in omega (arith, more))
      ]

  -- what is above an entry is above those between
  pub above_between : (d a e : ℕ) → d < a → a < e → e < length entries → is_above entries e d ≡ true
      → is_above entries a d ≡ true
  above_between d a e l m k h =
      let there = in_between entries up d a e (omega (arith, l)) (omega (arith, m)) k
      (above_in d e h) in
      let dir = first_so (is_directory entries d)
      (strictly_below (entry_at entries e).path (entry_at entries d).path) h in
      let below = strict_is d a l (omega (arith, m, k)) ∙ there in
      rw (dir, below) refl

  pub upto_first : (e : ℕ) → UpTo entries e (before e)
  upto_first zero = λ d l. false_from_ne_true (is_above entries zero d)
      (λ h. let b = above_before d zero l h in omega (arith, b))
  upto_first (suc e) = (
    omega arith,
    λ d a l. false_from_ne_true (is_above entries (suc e) d)
        (λ h. let b = above_before d (suc e) l h in omega (arith, a, b)),
  )

  -- behind the parent of the last one there is none, where that one is none
  skips : (a e : ℕ) → UpTo entries e (Some a) → e < length entries → is_above entries e a ≡ false
      → (d : ℕ) → d < length entries → is_above entries a d ≡ false → is_above entries e d ≡ false
  skips a e u m not d l none = false_from_ne_true (is_above entries e d) (λ h. elim (cases_lt a d) [
    | inl behind ↦ (let out = u.1 d behind l in cc)
    | inr ge ↦ elim (cases_lt d a) [
      | inl lt ↦ (let t = above_between d a e lt u.0 m h in cc)
      | inr le ↦ (let same : d ≡ a = omega (arith, ge, le) in
          let t = subst (λ k. is_above entries e k ≡ true) same h in cc)
    ]
  ])

  upto_by : (a e : ℕ) (found : Option ℕ) → UpTo entries e (Some a) → e < length entries
      → is_above entries e a ≡ false → IsGreatest (length entries) (is_above entries a) found
      → UpTo entries e found
  upto_by a e None u m not g = λ d l. skips a e u m not d l (g d l)
  upto_by a e (Some p) u m not g = (
    (let b = above_before p a g.0 g.1 in omega (arith, b, u.0)),
    λ d l k. skips a e u m not d k (g.2 d l k),
  )

  pub upto_next : (a e : ℕ) (new : Option ℕ) → UpTo entries e (Some a) → e < length entries
      → is_above entries e a ≡ false → new ≡ parent_of entries a → UpTo entries e new
  upto_next a e new u m not h =
      subst (UpTo entries e) (sym h)
      (upto_by a e (parent_of entries a) u m not
      (greatest_shown (length entries) (is_above entries a)))

  less_by : (a : ℕ) (found : Option ℕ) → IsGreatest (length entries) (is_above entries a) found
      → one_behind found < a + 1
  less_by a None g = omega arith
  less_by a (Some p) g = let b = above_before p a g.0 g.1 in omega (arith, b)

  pub parent_less : (a : ℕ) (new : Option ℕ) → new ≡ parent_of entries a → one_behind new < a + 1
  parent_less a new h =
      subst (λ o. one_behind o < a + 1) (sym h)
      (less_by a (parent_of entries a) (greatest_shown (length entries) (is_above entries a)))

  pub upto_found : (a e : ℕ) → UpTo entries e (Some a) → e < length entries → is_above entries e a
      ≡ true → Some a ≡ parent_of entries e
  upto_found a e u m h =
      sym (greatest_is (length entries) (is_above entries e) a (omega (arith, u.0, m)) h u.1)

  pub upto_none : (e : ℕ) → UpTo entries e None → None ≡ parent_of entries e
  upto_none e u = sym (greatest_none (length entries) (is_above entries e) u)

  before_by : (e : ℕ) (found : Option ℕ) → IsGreatest (length entries) (is_above entries e) found
      → IfSome found (λ d. d < e)
  before_by e None g = tt
  before_by e (Some d) g = above_before d e g.0 g.1

  pub parent_before : (e : ℕ) → IfSome (parent_of entries e) (λ d. d < e)
  parent_before e =
      before_by e (parent_of entries e) (greatest_shown (length entries) (is_above entries e))
