-- The entries that stay with one in its extent, marked in one sweep.
use Rattle.std.proofs.Common.{◌≡◌, ◌∙◌, ap, sym, refl, subst, ℕ, ◌+◌, ◌<◌, ◌≤◌, ◌==◌, ◌||◌, Bool}
use Rattle.std.proofs.Common.{true, false, not, List, length, set, get_or, arith, ◌⊎◌, inl, inr}
use Rattle.std.proofs.Common.{get_or-set_same, get_or-set_other, length-set}
use Rattle.std.specs.Prelude.{◌&&◌}
use Rattle.std.proofs.lemmas.Bool.{cases_lt, cases_eq, and_parts, eq-eqb, ne_eqb, eqb-true}
use Rattle.std.proofs.lemmas.Bool.{and_from, false_from_ne_true}
use Rattle.label_base.specs.Bounded.{implies}
use Rattle.label_base.proofs.BoundedLemmas.{all_at, all_from, implies_at}
use Rattle.tree_model.specs.LiveLists.{IsFilled, AreMarkedLive, IsMarkedTo, IsCleared, stays_in}
use Rattle.tree_model.specs.ExtentEnds.{AreEnds, within_extent}
use Rattle.tree_model.proofs.ClosedLemmas.{run_parts, run_from, implied}

pub or_true : (b : Bool) → (b || true) ≡ true
or_true true = refl
or_true false = refl

pub or_false : (b : Bool) → (b || false) ≡ b
or_false true = refl
or_false false = refl

pub and_true : (b : Bool) → (b && true) ≡ b
and_true true = refl
and_true false = refl

pub and_false : (b : Bool) → (b && false) ≡ false
and_false true = refl
and_false false = refl

-- what stands before or behind an extent is not in it
pub before_run : (ends : List ℕ) (d e : ℕ) → e < d → within_extent ends d e ≡ false
before_run ends d e l =
    false_from_ne_true (within_extent ends d e) (λ h. let p = run_parts ends d e h in
    omega (arith, p.0, l))

pub behind_run : (ends : List ℕ) (d e : ℕ) → get_or ends d 0 ≤ e → within_extent ends d e ≡ false
behind_run ends d e l =
    false_from_ne_true (within_extent ends d e) (λ h. let p = run_parts ends d e h in
    omega (arith, p.1, l))

module _ (ends : List ℕ) (f : ℕ → ℕ) (o : ℕ) where
  passes : ℕ → Bool
  passes e = within_extent ends o e && stays_in ends f o e

  pub marked_none : (start : List Bool) → IsMarkedTo ends f o o start start
  marked_none start = record {
    sized = refl;
    before = λ e l m. sym
        (ap (λ b. get_or start e false || (b && stays_in ends f o e)) (before_run ends o e l)
        ∙ or_false (get_or start e false));
    behind = λ e l m. refl;
    clear = λ a l m n. absurd (omega (arith, l, m));
  }

  module _ (c : ℕ) (start old : List Bool) (ends_are : AreEnds ends)
      (sized : length start ≡ length ends) (from : o ≤ c) (upto : c < get_or ends o 0)
      (within : o < length ends)
      (r : IsMarkedTo ends f o c start old) where
    inside : c < length ends
    inside = let w = ends_are.within o within in omega (arith, w, upto)

    stays_here : f c ≡ f o → stays_in ends f o c ≡ true
    stays_here same =
        all_from (length ends) (λ a. implies (within_extent ends o a && within_extent ends a c)
        (f a == f o))
        (λ a l. implied (within_extent ends o a && within_extent ends a c) (f a == f o)
        (λ h. let p = and_parts (within_extent ends o a) (within_extent ends a c) h in
        let q = run_parts ends o a p.0 in
        let s = run_parts ends a c p.1 in
        elim (cases_lt a c) [
          | inl lt ↦ eq-eqb (f a) (f o) (r.clear a q.0 lt s.1)
          | inr ge ↦ (let e : a ≡ c = omega (arith, s.0, ge) in eq-eqb (f a) (f o) (ap f e ∙ same))
        ]))

    same_before : (e : ℕ) → f c ≡ f o → e < c + 1 → e < length start → (e ≡ c) ⊎ (e ≡ c → ⊥)
        → get_or (set old c true) e false
        ≡ (get_or start e false || (within_extent ends o e && stays_in ends f o e))
    same_before e same l m (inl here) =
        subst (λ i. get_or (set old c true) i false
        ≡ (get_or start i false || (within_extent ends o i && stays_in ends f o i))) (sym here)
        (get_or-set_same old c true false (omega (arith, r.sized, sized, inside))
        ∙ sym (ap (λ b. get_or start c false || b)
        (and_from (within_extent ends o c) (stays_in ends f o c) (run_from ends o c from upto)
        (stays_here same)) ∙ or_true (get_or start c false)))
    same_before e same l m (inr other) = get_or-set_other old c e true false other
        ∙ r.before e (omega (arith, l, other)) m

    -- an entry that stays
    pub marked_same : f c ≡ f o → IsMarkedTo ends f o (c + 1) start (set old c true)
    marked_same same = record {
      sized = length-set old c true ∙ r.sized;
      before = λ e l m. same_before e same l m (cases_eq e c);
      behind = λ e l m. (let other : e ≡ c → ⊥ = λ s. omega (arith, l, s) in
          get_or-set_other old c e true false other ∙ r.behind e (omega (arith, l)) m);
      clear = λ a l m n. elim (cases_lt a c) [
        | inl lt ↦ r.clear a l lt (omega (arith, n))
        | inr ge ↦ (let e : a ≡ c = omega (arith, m, ge) in ap f e ∙ same)
      ];
    }

    leaves : (e : ℕ) → (f c ≡ f o → ⊥) → c ≤ e → e < get_or ends c 0 → stays_in ends f o e ≡ false
    leaves e other l m = false_from_ne_true (stays_in ends f o e) (λ h.
        let i = all_at (length ends)
        (λ a. implies (within_extent ends o a && within_extent ends a e) (f a == f o)) c h inside in
        let t = implies_at (within_extent ends o c && within_extent ends c e) (f c == f o) i
        (and_from (within_extent ends o c) (within_extent ends c e) (run_from ends o c from upto)
        (run_from ends c e l m)) in
        other (eqb-true (f c) (f o) t))

    -- an entry that leaves, with all in its extent
    pub marked_skip : (f c ≡ f o → ⊥) → IsMarkedTo ends f o (get_or ends c 0) start old
    marked_skip other = record {
      sized = r.sized;
      before = λ e l m. elim (cases_lt e c) [
        | inl lt ↦ r.before e lt m
        | inr ge ↦ r.behind e ge m
            ∙ sym (ap (λ b. get_or start e false || (within_extent ends o e && b))
            (leaves e other ge l)
            ∙ ap (λ b. get_or start e false || b) (and_false (within_extent ends o e))
            ∙ or_false (get_or start e false))
      ];
      behind = λ e l m. (let b = ends_are.behind c inside in r.behind e (omega (arith, l, b)) m);
      clear = λ a l m n. elim (cases_lt a c) [
        | inl lt ↦ (let b = ends_are.behind c inside in r.clear a l lt (omega (arith, n, b)))
        | inr ge ↦ (let b = ends_are.nested c a inside ge m in absurd (omega (arith, b, n)))
      ];
    }

  -- all of the extent
  pub marked_all : (start new : List Bool) → IsMarkedTo ends f o (get_or ends o 0) start new
      → AreMarkedLive (λ e. within_extent ends o e && stays_in ends f o e) start new
  marked_all start new r = record {
    sized = r.sized;
    marks = λ e m. elim (cases_lt e (get_or ends o 0)) [
      | inl lt ↦ r.before e lt m
      | inr ge ↦ r.behind e ge m
          ∙ sym (ap (λ b. get_or start e false || (b && stays_in ends f o e))
          (behind_run ends o e ge) ∙ or_false (get_or start e false))
    ];
  }

-- tests that agree
pub marked_as : (p q : ℕ → Bool) (old new : List Bool) → AreMarkedLive p old new
    → ((e : ℕ) → e < length old → p e ≡ q e) → AreMarkedLive q old new
marked_as p q old new r h =
    record {
      sized = r.sized;
      marks = λ e l. r.marks e l ∙ ap (λ b. get_or old e false || b) (h e l);
    }

-- an extent that is filled
pub filled_marks : (ends : List ℕ) (o : ℕ) (old new : List Bool)
    → IsFilled o (get_or ends o 0) true old new → AreMarkedLive (within_extent ends o) old new
filled_marks ends o old new r = record {
  sized = r.sized;
  marks = λ e m. elim (cases_lt e o) [
    | inl lt ↦ r.before e lt m ∙ sym (ap (λ b. get_or old e false || b) (before_run ends o e lt)
        ∙ or_false (get_or old e false))
    | inr ge ↦ elim (cases_lt e (get_or ends o 0)) [
      | inl lt ↦ r.inside e ge lt m
          ∙ sym (ap (λ b. get_or old e false || b) (run_from ends o e ge lt)
          ∙ or_true (get_or old e false))
      | inr past ↦ r.behind e past m
          ∙ sym (ap (λ b. get_or old e false || b) (behind_run ends o e past)
          ∙ or_false (get_or old e false))
    ]
  ];
}

-- one flag
one_mark : (o e : ℕ) (old : List Bool) → o < length old → (e ≡ o) ⊎ (e ≡ o → ⊥)
    → get_or (set old o true) e false ≡ (get_or old e false || (o == e))
one_mark o e old l (inl same) =
    subst (λ i. get_or (set old o true) i false ≡ (get_or old i false || (o == i))) (sym same)
    (get_or-set_same old o true false l
    ∙ sym (ap (λ b. get_or old o false || b) (eq-eqb o o refl) ∙ or_true (get_or old o false)))
one_mark o e old l (inr other) =
    get_or-set_other old o e true false other
    ∙ sym (ap (λ b. get_or old e false || b) (ne_eqb o e (λ s. other (sym s)))
    ∙ or_false (get_or old e false))

pub marked_one : (o : ℕ) (old : List Bool) → o < length old
    → AreMarkedLive (λ e. o == e) old (set old o true)
marked_one o old l =
    record { sized = length-set old o true; marks = λ e m. one_mark o e old l (cases_eq e o) }

-- the flags before c of the entries that pass are cleared, and the others stay
pub record IsClearedTo (passes : ℕ → Bool) (c : ℕ) (old new : List Bool) : Type 0 where
  pub sized : length new ≡ length old
  pub before : (e : ℕ) → e < c → e < length old
      → get_or new e false ≡ (get_or old e false && not (passes e))
  pub behind : (e : ℕ) → c ≤ e → e < length old → get_or new e false ≡ get_or old e false

-- nothing cleared yet
pub cleared_none : (p : ℕ → Bool) (c : ℕ) (old : List Bool)
    → ((e : ℕ) → e < c → e < length old → p e ≡ false) → IsClearedTo p c old old
cleared_none p c old h = record {
  sized = refl;
  before = λ e l m. sym (ap (λ b. get_or old e false && not b) (h e l m)
      ∙ and_true (get_or old e false));
  behind = λ e l m. refl;
}

-- an extent cleared
pub cleared_more : (p : ℕ → Bool) (c end : ℕ) (start old new : List Bool)
    → ((e : ℕ) → c ≤ e → e < end → p e ≡ true) → IsClearedTo p c start old → c ≤ end
    → IsFilled c end false old new → IsClearedTo p end start new
cleared_more p c end start old new h r up s = record {
  sized = s.sized ∙ r.sized;
  before = λ e l m. elim (cases_lt e c) [
    | inl lt ↦ s.before e lt (omega (arith, m, r.sized)) ∙ r.before e lt m
    | inr ge ↦ s.inside e ge l (omega (arith, m, r.sized))
        ∙ sym (ap (λ b. get_or start e false && not b) (h e ge l)
        ∙ and_false (get_or start e false))
  ];
  behind = λ e l m. s.behind e l (omega (arith, m, r.sized)) ∙ r.behind e (omega (arith, l, up)) m;
}

-- nothing behind passes
pub cleared_all : (p : ℕ → Bool) (c : ℕ) (start new : List Bool) → IsClearedTo p c start new
    → ((e : ℕ) → c ≤ e → e < length start → p e ≡ false) → IsCleared p start new
cleared_all p c start new r h = record {
  sized = r.sized;
  clears = λ e m. elim (cases_lt e c) [
    | inl lt ↦ r.before e lt m
    | inr ge ↦ r.behind e ge m
        ∙ sym (ap (λ b. get_or start e false && not b) (h e ge m) ∙ and_true (get_or start e false))
  ];
}
