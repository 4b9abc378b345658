-- Rows of places, counted from a start on: some place passes a test of its number and of itself.
use Rattle.std.proofs.Common.{◌≡◌, refl, sym, ◌∙◌, ap, ℕ, zero, suc, ◌+◌, ◌<◌, ◌≤◌, ◌==◌, Bool}
use Rattle.std.proofs.Common.{true, false, List, [], ◌∷◌, ◌++◌, length, ◌⊎◌, inl, inr, arith}
use Rattle.std.proofs.Math.Bool.{and_assoc, and-or_distrib_left, and-or_distrib_right, or_assoc}
use Rattle.std.proofs.Math.Bool.{or_comm}
use Rattle.std.proofs.lemmas.Bool.{eq-eqb, eqb-true, ne_eqb, or_cases, false_from_ne_true}
use Rattle.std.specs.Cmp.{first_so}
use Rattle.std.specs.Prelude.{◌||◌, ◌&&◌, map, Some, Option, slice_get}
use Rattle.pattern_match.specs.Automaton.{Place, up, moved, followed}
use Rattle.pattern_match.specs.Over.{place_admitted}
use Rattle.pattern_match.specs.Passes.{may_enter}
use Rattle.pattern_match.specs.Segments.{among}
use Rattle.pattern_match.specs.Tables.{any_under}
use Rattle.pattern_match.specs.declared.entry.EnteredPlaces.{EnteredPlaces}
use Rattle.pattern_match.proofs.Copies.{up_up}
use Rattle.pattern_match.proofs.LowestBits.{same_below, any_split}
use Rattle.pattern_match.proofs.SegmentPlaces.{followed_numbers}

abbrev pub some_place : (ℕ → Place → Bool) → (start : ℕ) → List Place → Bool
some_place test start [] = false
some_place test start (p ∷ ps) = test start p || some_place test (suc start) ps

-- a marked place behind which a text may end
abbrev pub ends_at : (ℕ → Bool) → ℕ → Place → Bool
ends_at marked n p = marked n && p.is_last

-- a marked place that leads to the one of this number, where those that follow are moved
abbrev pub leads_at : (ℕ → Bool) → (by q : ℕ) → ℕ → Place → Bool
leads_at marked by q n p = marked n && among (up by p.next) q

-- the place of this number, which may be entered
abbrev pub enters_at : EnteredPlaces → (q : ℕ) → ℕ → Place → Bool
enters_at entry q n p = (q == n) && may_enter entry p.bytes

pub some_append : (test : ℕ → Place → Bool) (start : ℕ) (ps qs : List Place)
    → some_place test start (ps ++ qs)
    ≡ (some_place test start ps || some_place test (start + length ps) qs)
some_append test start [] qs =
    ap (λ n. some_place test n qs) (let e : start ≡ start + 0 = omega arith in e)
some_append test start (p ∷ ps) qs =
    ap (λ v. test start p || v) (some_append test (suc start) ps qs
    ∙ ap (λ n. some_place test (suc start) ps || some_place test n qs)
    (let e : suc start + length ps ≡ start + suc (length ps) = omega arith in e))
    ∙ sym (or_assoc (test start p) (some_place test (suc start) ps)
    (some_place test (start + suc (length ps)) qs))

pub some_map : (test : ℕ → Place → Bool) (f : Place → Place) (start : ℕ) (ps : List Place)
    → some_place test start (map f ps) ≡ some_place (λ n p. test n (f p)) start ps
some_map test f start [] = refl
some_map test f start (p ∷ ps) =
    ap (λ v. test start (f p) || v) (some_map test f (suc start) ps)

pub some_same : (f g : ℕ → Place → Bool) → ((n : ℕ) (p : Place) → f n p ≡ g n p) → (start : ℕ)
    (ps : List Place) → some_place f start ps ≡ some_place g start ps
some_same f g h start [] = refl
some_same f g h start (p ∷ ps) =
    let a : f start p ≡ g start p = h start p in
    let b = some_same f g h (suc start) ps in rw (a, b) refl

pub or_turned : (a b c d : Bool) → ((a || b) || (c || d)) ≡ ((a || c) || (b || d))
or_turned true b c d = refl
or_turned false true true d = refl
or_turned false true false d = refl
or_turned false false c d = refl

some_or : (f g : ℕ → Place → Bool) (start : ℕ) (ps : List Place)
    → some_place (λ n p. f n p || g n p) start ps
    ≡ (some_place f start ps || some_place g start ps)
some_or f g start [] = refl
some_or f g start (p ∷ ps) =
    ap (λ v. (f start p || g start p) || v) (some_or f g (suc start) ps)
    ∙ or_turned (f start p) (g start p) (some_place f (suc start) ps) (some_place g (suc start) ps)

some_and : (f : ℕ → Place → Bool) (v : Bool) (start : ℕ) (ps : List Place)
    → some_place (λ n p. f n p && v) start ps ≡ (some_place f start ps && v)
some_and f v start [] = refl
some_and f v start (p ∷ ps) =
    ap (λ w. (f start p && v) || w) (some_and f v (suc start) ps)
    ∙ sym (and-or_distrib_right (f start p) (some_place f (suc start) ps) v)

-- places behind others
pub leads_moved : (marked : ℕ → Bool) (base by q start : ℕ) (ps : List Place)
    → some_place (leads_at marked base q) start (map (moved by) ps)
    ≡ some_place (leads_at marked (base + by) q) start ps
leads_moved marked base by q start ps =
    some_map (leads_at marked base q) (moved by) start ps
    ∙ some_same (λ n p. leads_at marked base q n (moved by p)) (leads_at marked (base + by) q)
    (λ n p. ap (λ ns. marked n && among ns q) (up_up base by p.next)) start ps

-- places where another part follows
pub ends_followed : (marked : ℕ → Bool) (stops : Bool) (first : List ℕ) (start : ℕ)
    (ps : List Place) → some_place (ends_at marked) start (map (followed stops first) ps)
    ≡ (some_place (ends_at marked) start ps && stops)
ends_followed marked stops first start ps =
    some_map (ends_at marked) (followed stops first) start ps
    ∙ some_same (λ n p. ends_at marked n (followed stops first p))
    (λ n p. ends_at marked n p && stops)
    (λ n p. sym (and_assoc (marked n) p.is_last stops)) start ps
    ∙ some_and (ends_at marked) stops start ps

pub leads_followed : (marked : ℕ → Bool) (base q : ℕ) (stops : Bool) (first : List ℕ) (start : ℕ)
    (ps : List Place) → some_place (leads_at marked base q) start (map (followed stops first) ps)
    ≡ (some_place (leads_at marked base q) start ps
    || (some_place (ends_at marked) start ps && among (up base first) q))
leads_followed marked base q stops first start ps =
    some_map (leads_at marked base q) (followed stops first) start ps
    ∙ some_same (λ n p. leads_at marked base q n (followed stops first p))
    (λ n p. leads_at marked base q n p || (ends_at marked n p && among (up base first) q))
    (λ n p. ap (λ v. marked n && v) (followed_numbers p.is_last base q p.next first)
    ∙ and-or_distrib_left (marked n) (among (up base p.next) q)
    (p.is_last && among (up base first) q)
    ∙ ap (λ v. leads_at marked base q n p || v)
    (sym (and_assoc (marked n) p.is_last (among (up base first) q)))) start ps
    ∙ some_or (leads_at marked base q) (λ n p. ends_at marked n p && among (up base first) q) start
    ps
    ∙ ap (λ v. some_place (leads_at marked base q) start ps || v)
    (some_and (ends_at marked) (among (up base first) q) start ps)

-- a number of a row of so many places from a start on
abbrev pub Stands : (q start count : ℕ) → Type 0
Stands q start count = (start ≤ q) × (q < start + count)

pub entered_stands : (entry : EnteredPlaces) (q start : ℕ) (ps : List Place)
    → some_place (enters_at entry q) start ps ≡ true → Stands q start (length ps)
entered_stands entry q start [] h = cc
entered_stands entry q start (p ∷ ps) h =
    at (or_cases (enters_at entry q start p) _ h) (entered_stands entry q (suc start) ps)
  where
    at : (enters_at entry q start p ≡ true) ⊎ (some_place (enters_at entry q) (suc start) ps ≡ true)
        → (some_place (enters_at entry q) (suc start) ps ≡ true
        → Stands q (suc start) (length ps)) → Stands q start (suc (length ps))
    at (inl a) ih = let e = eqb-true q start (first_so (q == start) _ a) in
        (omega arith, omega arith)
    at (inr b) ih = let s = ih b in (omega arith, omega arith)

-- the same by indexes of the places
pub any_place : (test : ℕ → Option Place → Bool) (start : ℕ) (ps : List Place)
    → any_under (λ i. test (start + i) (slice_get ps i)) (length ps)
    ≡ some_place (λ n p. test n (Some p)) start ps
any_place test start [] = refl
any_place test start (p ∷ ps) =
    let e : suc (length ps) ≡ 1 + length ps = omega arith in
    ap (any_under (λ i. test (start + i) (slice_get (p ∷ ps) i))) e
    ∙ any_split (λ i. test (start + i) (slice_get (p ∷ ps) i)) 1 (length ps)
    ∙ ap (λ v. v || any_under (λ j. test (start + (1 + j)) (slice_get (p ∷ ps) (1 + j)))
    (length ps))
    (ap (λ n. test n (Some p)) (let f : start + 0 ≡ start = omega arith in f))
    ∙ ap (λ v. test start (Some p) || v)
    (same_below (λ j. test (start + (1 + j)) (slice_get (p ∷ ps) (1 + j)))
    (λ j. test (suc start + j) (slice_get ps j)) (length ps) (λ j l. one_later j)
    ∙ any_place test (suc start) ps)
  where
    one_later : (j : ℕ) → test (start + (1 + j)) (slice_get (p ∷ ps) (1 + j))
        ≡ test (suc start + j) (slice_get ps j)
    one_later j =
        let a : 1 + j ≡ suc j = omega arith in
        let b : start + suc j ≡ suc start + j = omega arith in rw (a, b) refl

pub entered_place : (entry : EnteredPlaces) (q start k : ℕ) (ps : List Place) → q ≡ start + k
    → place_admitted entry (slice_get ps k) ≡ some_place (enters_at entry q) start ps
entered_place entry q start k [] e = refl
entered_place entry q start zero (p ∷ ps) e =
    let a : (q == start) ≡ true = eq-eqb q start (omega arith) in
    let b : some_place (enters_at entry q) (suc start) ps ≡ false =
    false_from_ne_true _ (λ h. let s = entered_stands entry q (suc start) ps h in omega arith) in
    rw (a, b) (or_comm false (may_enter entry p.bytes))
entered_place entry q start (suc k) (p ∷ ps) e =
    let a : (q == start) ≡ false = ne_eqb q start (λ h. omega arith) in
    rw a (entered_place entry q (suc start) k ps (omega arith))
