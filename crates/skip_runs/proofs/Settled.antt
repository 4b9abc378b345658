-- Directories that a run leaves as they are.
use Rattle.std.proofs.Common.{◌≡◌, ◌∙◌, ap, sym, refl, subst, ℕ, ◌<◌, Bool, true, false, ◌==◌, ◌&&◌}
use Rattle.std.proofs.Common.{Option, Some, None, unwrap_or, inl, inr, eqb-true}
use Rattle.std.proofs.lemmas.Bool.{and_parts, and_left, and_right, cases_Bool}
use Rattle.skip_runs.specs.Relabel.{Kinds, WalkedTree, Relabelling, gives_context, decided_context}
use Rattle.skip_runs.specs.Relabel.{can_win_in, winner_in, wanted_by, relabelled}
use Rattle.skip_runs.specs.Skipping.{Agree, HoldsGroups, Settles}
use Rattle.label_base.proofs.BoundedLemmas.{least_same, least_none, least_case}

-- each entry
abbrev pub every : ℕ → Bool
every e = true

-- the label is kept where this is wanted
abbrev pub Keeps : {K : Kinds} → Relabelling K → K.Label → Option K.Context → Type 0
Keeps r label None = Unit {0}
Keeps r label (Some wanted) = r.decide label wanted ≡ None

-- The directory holds its groups, and for each group in it the run keeps the group's label where
-- the context of the least name that is decided to one is wanted.
pub record Settled {K : Kinds} (t : WalkedTree) (r : Relabelling K) (labels : ℕ → K.Label)
    (d : ℕ) : Type 0 where
  pub holds : HoldsGroups t d
  pub keeps : (x : ℕ) → x < t.count → t.in_extent d x ≡ true
      → Keeps r (labels (t.group_of x)) (wanted_by r (winner_in t r every (t.group_of x)))

-- what is kept doesn't change
pub kept : {K : Kinds} (r : Relabelling K) (label : K.Label) (o : Option K.Context)
    → Keeps r label o → relabelled r label o ≡ label
kept r label None h = refl
kept r label (Some wanted) h = ap (λ v. unwrap_or v label) h

keeps_given : {K : Kinds} (r : Relabelling K) (label : K.Label) (wanted : K.Context)
    (v : Option K.Label) → Settles r → r.decide label wanted ≡ v
    → r.decide (unwrap_or v label) wanted ≡ None
keeps_given r label wanted None s e = e
keeps_given r label wanted (Some new) s e = s label new wanted e

-- a label that was given is kept
pub keeps_new : {K : Kinds} (r : Relabelling K) (label : K.Label) (o : Option K.Context) → Settles r
    → Keeps r (relabelled r label o) o
keeps_new r label None s = tt
keeps_new r label (Some wanted) s = keeps_given r label wanted (r.decide label wanted) s refl

-- winners are the same where the same of the group's entries are walked
pub winner_same : {K : Kinds} (t : WalkedTree) (r : Relabelling K) (walk walk' : ℕ → Bool) (g : ℕ)
    → ((e : ℕ) → e < t.count → t.group_of e ≡ g → walk e ≡ walk' e) → winner_in t r walk g
    ≡ winner_in t r walk' g
winner_same t r walk walk' g h =
    least_same t.count (can_win_in t r walk g) (can_win_in t r walk' g)
    (λ e l. elim (cases_Bool (t.group_of e == g)) [
      | inl y ↦ ap (λ w. (t.group_of e == g) && (w && gives_context (r.decision e)))
          (h e l (eqb-true (t.group_of e) g y))
      | inr n ↦ and_left (t.group_of e == g) (walk e && gives_context (r.decision e)) n
          ∙ sym (and_left (t.group_of e == g) (walk' e && gives_context (r.decision e)) n)
    ])

-- there is no winner where none of the group's entries is walked
pub no_winner : {K : Kinds} (t : WalkedTree) (r : Relabelling K) (walk : ℕ → Bool) (g : ℕ)
    → ((e : ℕ) → e < t.count → t.group_of e ≡ g → walk e ≡ false) → winner_in t r walk g ≡ None
no_winner t r walk g h =
    least_none t.count (can_win_in t r walk g)
    (λ e l. elim (cases_Bool (t.group_of e == g)) [
      | inl y ↦ and_right (t.group_of e == g) (walk e && gives_context (r.decision e))
          (and_left (walk e) (gives_context (r.decision e)) (h e l (eqb-true (t.group_of e) g y)))
      | inr n ↦ and_left (t.group_of e == g) (walk e && gives_context (r.decision e)) n
    ])

keeps_like : {K : Kinds} (a b : Relabelling K) (label : K.Label) (o : Option K.Context)
    → ((label : K.Label) (wanted : K.Context) → a.decide label wanted ≡ b.decide label wanted)
    → Keeps a label o → Keeps b label o
keeps_like a b label None d h = tt
keeps_like a b label (Some wanted) d h = sym (d label wanted) ∙ h

-- what two runs that agree on a directory that holds its groups want for a group in it
wanted_same : {K : Kinds} (t : WalkedTree) (a b : Relabelling K) (d x : ℕ) → HoldsGroups t d
    → x < t.count → t.in_extent d x ≡ true → Agree t a b d
    → wanted_by a (winner_in t a every (t.group_of x)) ≡ wanted_by b
    (winner_in t b every (t.group_of x))
wanted_same {K} t a b d x holds l i agree =
    let g = t.group_of x in
    let inside : (e : ℕ) → e < t.count → (t.group_of e == g) ≡ true → t.in_extent d e ≡ true =
    λ e le h. holds x e l le i (eqb-true (t.group_of e) g h) in
    least_case t.count (can_win_in t a every g) (λ o. wanted_by a o ≡ wanted_by b o) refl
    (λ e le h. ap decided_context
    (agree.decision e le
    (inside e le (and_parts (t.group_of e == g) (gives_context (a.decision e)) h).0)))
    ∙ ap (wanted_by b) (least_same t.count (can_win_in t a every g) (can_win_in t b every g)
    (λ e le. elim (cases_Bool (t.group_of e == g)) [
      | inl y ↦ ap (λ v. (t.group_of e == g) && gives_context v)
          (agree.decision e le (inside e le y))
      | inr n ↦ and_left (t.group_of e == g) (gives_context (a.decision e)) n
          ∙ sym (and_left (t.group_of e == g) (gives_context (b.decision e)) n)
    ]))

-- a directory is settled under a run that agrees on it
pub settled_like : {K : Kinds} (t : WalkedTree) (a b : Relabelling K) (labels : ℕ → K.Label) (d : ℕ)
    → Agree t a b d → Settled t a labels d → Settled t b labels d
settled_like t a b labels d agree s =
    record {
      holds = s.holds;
      keeps = λ x l i.
          subst (λ o. Keeps b (labels (t.group_of x)) o) (wanted_same t a b d x s.holds l i agree)
          (keeps_like a b (labels (t.group_of x)) (wanted_by a (winner_in t a every (t.group_of x)))
          agree.decide (s.keeps x l i));
    }

-- a directory stays settled where no label in it changes
pub settled_on : {K : Kinds} (t : WalkedTree) (r : Relabelling K) (labels labels' : ℕ → K.Label)
    (d : ℕ)
    → ((x : ℕ) → x < t.count → t.in_extent d x ≡ true → labels (t.group_of x)
    ≡ labels' (t.group_of x)) → Settled t r labels d → Settled t r labels' d
settled_on t r labels labels' d same s =
    record {
      holds = s.holds;
      keeps = λ x l i. subst
          (λ label. Keeps r label (wanted_by r (winner_in t r every (t.group_of x)))) (same x l i)
          (s.keeps x l i);
    }
