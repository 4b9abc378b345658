-- The first of a list that fits is the last specification that does.
use Rattle.std.proofs.Common.{◌≡◌, ◌∙◌, refl, sym, ap, subst, ℕ, zero, suc, ◌+◌, ◌<◌, ◌≤◌, inl, inr}
use Rattle.std.proofs.Common.{Bool, true, false, cond, List, [], ◌∷◌, ◌++◌, length, get_or, drop}
use Rattle.std.proofs.Common.{map, filter, Some, None, append-nil, arith}
use Rattle.std.proofs.lemmas.Bool.{cases_lt, and_right}
use Rattle.std.proofs.lemmas.List.{length-map}
use Rattle.label_base.specs.Kind.{applies}
use Rattle.label_base.specs.declared.kind.Asked.{Asked}
use Rattle.pattern_match.proofs.Reading.{not_holds, less_opens}
use Rattle.pattern_match.specs.States.{StandsFor}
use Rattle.pattern_syntax.specs.Language.{In, Opens, holds}
use Rattle.spec_match.specs.Alive.{Alive, AreAliveFrom, NoneAlive, alive_at, pattern_at}
use Rattle.spec_match.specs.Listed.{Covers, IsFloor, IsListed}
use Rattle.spec_match.specs.LastMatch.{Fits, fits}
use Rattle.spec_match.specs.Remembering.{IsAnswer}
use Rattle.spec_match.specs.StatesFor.{patterns_of, spec_in}
use Rattle.spec_match.specs.declared.compiled_spec.CompiledSpec.{CompiledSpec}
use Rattle.spec_match.proofs.AliveLemmas.{bound_at, bound_next, covers_opens, member_at, none_left}
use Rattle.spec_match.proofs.AliveLemmas.{pattern_of_spec}
use Rattle.spec_match.proofs.LastLemmas.{found_index, found_member, found_decides, none_index}
use Rattle.spec_match.proofs.LastLemmas.{none_member, none_decides, none_past}
use Rattle.spec_reader.specs.SpecValue.{SpecValue}

pub pattern_of_rule : (rules : List CompiledSpec) (i : ℕ) (d : CompiledSpec) → i < length rules
    → (get_or rules i d).spec.pattern ≡ pattern_at (patterns_of rules) i
pattern_of_rule [] i d l = absurd (omega (arith, l))
pattern_of_rule (r ∷ rules) zero d l = refl
pattern_of_rule (r ∷ rules) (suc i) d l = pattern_of_rule rules i d (omega (arith, l))

pub count_rules : (rules : List CompiledSpec) → length (patterns_of rules) ≡ length rules
count_rules rules = length-map rules (λ (r : CompiledSpec). r.spec.pattern)

-- what is dead behind a text doesn't fit it
pub dead_fits : (asked : Asked) (text : List ℕ) (spec : SpecValue) → (Opens spec.pattern text → ⊥)
    → fits asked text spec ≡ false
dead_fits asked text spec h = and_right (applies spec.kind asked) (holds spec.pattern text)
    (sym (not_holds spec.pattern text (holds spec.pattern text) refl h))

-- nor one that begins with it
pub dead_behind : (asked : Asked) (front more : List ℕ) (spec : SpecValue)
    → (Opens spec.pattern front → ⊥) → fits asked (front ++ more) spec ≡ false
dead_behind asked front more spec h =
    dead_fits asked (front ++ more) spec (λ o. h (less_opens spec.pattern front more o))

module _ (asked : Asked) (text : List ℕ) where
  -- none of the specifications from one on fits
  abbrev pub NoneFits : List CompiledSpec → ℕ → Type 0
  NoneFits rules from = filter (fits asked text) (map spec_in (drop from rules)) ≡ []

  passed : (b : Bool) (s : SpecValue) (kept : List SpecValue) → b ≡ false → kept ≡ []
      → cond b (s ∷ kept) kept ≡ []
  passed true s kept e h = cc
  passed false s kept e h = h

  pub none_back : (rules : List CompiledSpec) (from to : ℕ) (d : CompiledSpec) → from ≤ to
      → ((j : ℕ) → from ≤ j → j < to → j < length rules
      → fits asked text (spec_in (get_or rules j d)) ≡ false) → NoneFits rules to
      → NoneFits rules from
  none_back [] zero to d l f h = refl
  none_back [] (suc from) to d l f h = refl
  none_back (r ∷ rules) zero zero d l f h = h
  none_back (r ∷ rules) zero (suc to) d l f h =
      passed (fits asked text (spec_in r)) (spec_in r)
      (filter (fits asked text) (map spec_in rules))
      (f 0 (omega arith) (omega arith) (omega arith))
      (none_back rules zero to d (omega arith)
      (λ j a b c. f (suc j) (omega (arith, a)) (omega (arith, b)) (omega (arith, c))) h)
  none_back (r ∷ rules) (suc from) zero d l f h = absurd (omega (arith, l))
  none_back (r ∷ rules) (suc from) (suc to) d l f h =
      none_back rules from to d (omega (arith, l))
      (λ j a b c. f (suc j) (omega (arith, a)) (omega (arith, b)) (omega (arith, c))) h

  pub found_answer : (rules : List CompiledSpec) (i : ℕ) (d : CompiledSpec) → i < length rules
      → fits asked text (spec_in (get_or rules i d)) ≡ true → NoneFits rules (suc i)
      → IsAnswer asked text (map spec_in rules) (Some i)
  found_answer rules i d l t h = record {
    within = omega (arith, l, length-map rules spec_in);
    index = found_index asked text rules i d l t h;
    member = found_member asked text rules i d l t h;
    decides = found_decides asked text rules i d l t h;
  }

  pub none_answer : (rules : List CompiledSpec) → NoneFits rules 0
      → IsAnswer asked text (map spec_in rules)
      None
  none_answer rules h = record {
    within = tt;
    index = none_index asked text rules h;
    member = none_member asked text rules h;
    decides = none_decides asked text rules h;
  }

  pub past : (rules : List CompiledSpec) (n : ℕ) → length rules ≤ n → NoneFits rules n
  past [] zero l = refl
  past [] (suc n) l = refl
  past (r ∷ rules) zero l = absurd (omega (arith, l))
  past (r ∷ rules) (suc n) l = past rules n (omega (arith, l))

-- the list is right behind a front of the text, from a floor on
abbrev right : List ℕ → List CompiledSpec → List Alive → ℕ → Type 0
right front rules list floor =
    AreAliveFrom (patterns_of rules) front floor (length (patterns_of rules)) list

-- so many members of a list that is right behind a front of the text don't fit the text
abbrev pub IsPassed : Asked → List ℕ → List ℕ → List CompiledSpec → List Alive → ℕ → Type 0
IsPassed asked front text rules list k =
    (floor : ℕ) → right front rules list floor
    → NoneFits asked text rules (bound_at (length (patterns_of rules)) list k)

-- lists that are right behind a front of the text, so that what is dead there doesn't fit the text
module _ (asked : Asked) (front text : List ℕ)
    (dead : (spec : SpecValue) → (Opens spec.pattern front → ⊥) → fits asked text spec ≡ false)
  where
    dead_from : (rules : List CompiledSpec) (j : ℕ) (d : CompiledSpec) (from below : ℕ)
        → NoneAlive (patterns_of rules) front from below → from ≤ j → j < below → j < length rules
        → fits asked text (spec_in (get_or rules j d)) ≡ false
    dead_from rules j d from below h a b c =
        dead (spec_in (get_or rules j d))
        (λ o. h j a b (subst (λ t. Opens t front) (pattern_of_rule rules j d c) o))

    pub none_alive_answer : (rules : List CompiledSpec) (d : CompiledSpec) (below : ℕ)
        → NoneAlive (patterns_of rules) front 0 below → NoneFits asked text rules below
        → IsAnswer asked text (map spec_in rules) None
    none_alive_answer rules d below h n =
        none_answer asked text rules
        (none_back asked text rules 0 below d (omega arith)
        (λ j a b c. dead_from rules j d 0 below h a b c) n)

    one_fits : (rules : List CompiledSpec) (list : List Alive) (floor k : ℕ) (rule : CompiledSpec)
        (v : Bool)
        → k < length list → rule ≡ get_or rules (alive_at list k).index rule
        → ((alive_at list k).index < length rules) → right front rules list floor
        → (StandsFor rule.spec.pattern (alive_at list k).states front
        → v ≡ fits asked text rule.spec)
        → v ≡ fits asked text (spec_in (get_or rules (alive_at list k).index rule))
    one_fits rules list floor k rule v l e w h f =
        let i = (alive_at list k).index in
        let m = member_at (patterns_of rules) front floor (length (patterns_of rules)) list k l h in
        let p : rule.spec.pattern ≡ pattern_at (patterns_of rules) i =
        ap (λ (r : CompiledSpec). r.spec.pattern) e ∙ pattern_of_rule rules i rule w in
        f (subst (λ t. StandsFor t (alive_at list k).states front) (sym p) m.stands)
        ∙ ap (λ (r : CompiledSpec). fits asked text (spec_in r)) e

    pub passed_on : (rules : List CompiledSpec) (list : List Alive) (k : ℕ) (rule : CompiledSpec)
        (v : Bool)
        → k < length list → rule ≡ get_or rules (alive_at list k).index rule
        → (alive_at list k).index
        < length rules
        → (StandsFor rule.spec.pattern (alive_at list k).states front
        → v ≡ fits asked text rule.spec)
        → v ≡ false → IsPassed asked front text rules list k → IsPassed asked front text rules list
        (suc k)
    passed_on rules list k rule v l e w f z s floor h =
        let i = (alive_at list k).index in
        let n = bound_at (length (patterns_of rules)) list k in
        let m = member_at (patterns_of rules) front floor (length (patterns_of rules)) list k l h in
        let misses : fits asked text (spec_in (get_or rules i rule)) ≡ false =
        sym (one_fits rules list floor k rule v l e w h f) ∙ z in
        subst (λ b. NoneFits asked text rules b)
        (sym (bound_next (length (patterns_of rules)) list k l))
        (none_back asked text rules i n rule (omega (arith, m.below))
        (λ j a b c. at i j n rules rule a b c misses m.none) (s floor h))
      where
        at : (i j n : ℕ) (rules : List CompiledSpec) (rule : CompiledSpec) → i ≤ j → j < n
            → j < length rules
            → fits asked text (spec_in (get_or rules i rule)) ≡ false
            → NoneAlive (patterns_of rules) front (i + 1) n
            → fits asked text (spec_in (get_or rules j rule)) ≡ false
        at i j n rules rule a b c misses none = elim (cases_lt i j) [
          | inl above ↦ dead_from rules j rule (i + 1) n none (omega (arith, above)) b c
          | inr here ↦ subst (λ q. fits asked text (spec_in (get_or rules q rule)) ≡ false)
              (omega (arith, here, a)) misses
        ]

    pub first_found : (rules : List CompiledSpec) (list : List Alive) (k : ℕ) (rule : CompiledSpec)
        (v : Bool)
        → k < length list → rule ≡ get_or rules (alive_at list k).index rule
        → (alive_at list k).index
        < length rules
        → (StandsFor rule.spec.pattern (alive_at list k).states front
        → v ≡ fits asked text rule.spec)
        → v ≡ true → IsPassed asked front text rules list k → (floor : ℕ)
        → right front rules list floor → IsAnswer asked text (map spec_in rules)
        (Some (alive_at list k).index)
    first_found rules list k rule v l e w f z s floor h =
        let i = (alive_at list k).index in
        let n = bound_at (length (patterns_of rules)) list k in
        let m = member_at (patterns_of rules) front floor (length (patterns_of rules)) list k l h in
        found_answer asked text rules i rule w (sym (one_fits rules list floor k rule v l e w h f)
        ∙ z)
        (none_back asked text rules (suc i) n rule (omega (arith, m.below))
        (λ j a b c. dead_from rules j rule (i + 1) n m.none (omega (arith, a)) b c) (s floor h))

    pub none_found : (rules : List CompiledSpec) (list : List Alive) (k : ℕ) → length list ≤ k
        → IsPassed asked front text rules list k → right front rules list 0
        → IsAnswer asked text (map spec_in rules) None
    none_found rules list k l s h = at rules refl
      where
        at : (rs : List CompiledSpec) → rules ≡ rs → IsAnswer asked text (map spec_in rules) None
        at [] e = none_answer asked text rules
            (ap (λ (w : List CompiledSpec). filter (fits asked text) (map spec_in w)) e)
        at (r ∷ rs) e = none_alive_answer rules r (bound_at (length (patterns_of rules)) list k)
            (none_left (patterns_of rules) front 0 (length (patterns_of rules)) list k l h) (s 0 h)

-- a specification that covers a text fits it, so that it is listed, and not passed over
covers_fits : (asked : Asked) (text : List ℕ) (specs : List SpecValue) (i : ℕ)
    (c : Covers specs text i) → Fits asked text c.spec
covers_fits asked text specs i c = (
  ap (λ kind. applies kind asked) c.any,
  subst (In c.spec.pattern) (append-nil text)
      (c.holds [] tt),
)

none_covers : (asked : Asked) (text : List ℕ) (rules : List CompiledSpec) (floor bound : ℕ)
    → NoneAlive (patterns_of rules) text floor bound → NoneFits asked text rules bound
    → Covers (map spec_in rules) text floor → ⊥
none_covers asked text rules floor bound none h c = elim (cases_lt floor bound) [
  | inl below ↦ none floor (omega arith) below
      (covers_opens (patterns_of rules) (map spec_in rules) text floor (pattern_of_spec rules) c)
  | inr past ↦ none_past asked text rules bound floor c.spec past h c.found
      (covers_fits asked text (map spec_in rules) floor c)
]

pub none_listed : (asked : Asked) (cuts : Bool) (text : List ℕ) (rules : List CompiledSpec)
    (list : List Alive) (k : ℕ) → length list ≤ k → IsPassed asked text text rules list k
    → IsListed cuts (patterns_of rules) (map spec_in rules) text list
    → IsAnswer asked text (map spec_in rules) None
none_listed asked cuts text rules list k l s h = at h.floor h.is_floor h.alive
  where
    at : (floor : ℕ) → IsFloor cuts (map spec_in rules) text floor → right text rules list floor
        → IsAnswer asked text (map spec_in rules) None
    at floor (inl whole) a = none_found asked text text (dead_fits asked text) rules list k l s
        (subst (right text rules list) whole a)
    at floor (inr cut) a =
        let ps = patterns_of rules in
        absurd (none_covers asked text rules floor (bound_at (length ps) list k)
        (none_left ps text floor (length ps) list k l a) (s floor a) cut.1)
