-- Each step keeps the rule of the words.
use Rattle.std.proofs.Common.{◌≡◌, ◌≢◌, ℕ, suc, ◌+◌, ◌-◌, ◌<◌, ◌≤◌, ◌==◌, ◌&&◌, ◌⊎◌, min, Bool}
use Rattle.std.proofs.Common.{true, false, cond, eq-eqb, ne_eqb, List, [], ◌∷◌, ◌++◌, set, get_or}
use Rattle.std.proofs.Common.{length, refl, sym, ap, subst, ◌∙◌, inl, inr, ⊎_elim, arith}
use Rattle.std.proofs.Common.{get_or-set_other, get_or-set_same, length-set, sum_by, replicate}
use Rattle.std.proofs.lemmas.List.{length-replicate, get_or-replicate}
use mathlib.Core.Option.{none, some, some-ne-none}
use mathlib.Core.Logic.{dite}
use native.Mathlib.Decide.{dec_le, ℕ_discrete}
use lib.ListN.{get_elem?}
use Rattle.atomic_table.specs.Table.{State, Me, keeps, step, Allows, Splits, Joins}
use Rattle.atomic_table.proofs.Lists.{at_set, at_snoc}
use Rattle.label_base.proofs.SumLemmas.{sum_set, one_of}
use Rattle.std.proofs.lemmas.List.Sums.{sum_by_push}
use Rattle.inode_claims.specs.declared.rule.Call.{Call}
use Rattle.inode_claims.specs.declared.rule.ClaimView.{ClaimView}
use Rattle.inode_claims.specs.declared.rule.ClaimsPlan.{ClaimsPlan}
use Rattle.walk_steps.specs.declared.machine.TheConstants.{NONE_WORD}
use Rattle.inode_claims.specs.Claiming.{call_of, fresh_claims, with_call, claims_for_one_less}
use Rattle.inode_claims.specs.Claiming.{claims_joined, calls_where, is_call_at, was_answered}
use Rattle.inode_claims.specs.Rule.{LeastIsKept, SpentIsEmpty, count_all, IsClaimOf}

count_append : (q : Call → Bool) (xs ys : List Call) → calls_where q (xs ++ ys) ≡ calls_where q
    xs + calls_where q ys
count_append q [] ys = omega arith
count_append q (x ∷ xs) ys = let r = count_append q xs ys in omega (arith, r)

-- the views may change as they like, while their calls and what they stand for stay the same in sum
moved : (plan : ClaimsPlan) (words : List ℕ) (views after : List ClaimView)
    → LeastIsKept plan words views
    → sum_by (λ v. v.stands_for) after ≡ sum_by (λ v. v.stands_for) views
    → SpentIsEmpty after → ((q : Call → Bool) → count_all q after ≡ count_all q views)
    → LeastIsKept plan words after
moved plan words views after k stands idle same = record {
  sized = k.sized;
  whole = stands ∙ k.whole;
  spent = idle;
  low = λ g p h. k.low g p (let s = same (is_call_at g p) in omega (arith, s));
  met = λ g lt. ⊎_elim (λ e. inl e)
      (λ h. inr (let s = same (is_call_at g (get_or words (suc g) 0)) in omega (arith, s)))
      (k.met g lt);
  answered = λ g a h. ⊎_elim (λ e. inl e)
      (λ i. inr (let s = same (is_call_at g a) in omega (arith, s)))
      (k.answered g a (let s = same (was_answered g a) in omega (arith, s)));
  once = λ g lt. same (was_answered g NONE_WORD) ∙ k.once g lt;
}

idle_set : (views : List ClaimView) (seat : ℕ) (w : ClaimView) → (w.stands_for ≡ 0 → w.calls ≡ [])
    → SpentIsEmpty views → SpentIsEmpty (set views seat w)
idle_set views seat w mine h j u e idle =
    ⊎_elim (λ (t : (j ≡ seat) × (w ≡ u)). subst (λ (x : ClaimView). x.stands_for ≡ 0 → x.calls ≡ [])
    t.1 mine idle)
    (λ (t : (j ≢ seat) × (get_elem? views j ≡ some u)). h j u t.1 idle) (at_set views seat j w u e)

idle_snoc : (views : List ClaimView) (w : ClaimView) → (w.stands_for ≡ 0 → w.calls ≡ [])
    → SpentIsEmpty views → SpentIsEmpty (views ++ w ∷ [])
idle_snoc views w mine h j u e idle =
    ⊎_elim (λ t. h j u t idle)
    (λ (t : w ≡ u). subst (λ (x : ClaimView). x.stands_for ≡ 0 → x.calls ≡ []) t mine idle)
    (at_snoc views w u j e)

pub begins : (plan : ClaimsPlan) (words : List ℕ) → 0 < plan.passes → length words ≡ suc plan.groups
    → ((g : ℕ) → g < plan.groups → get_or words (suc g) 0 ≡ NONE_WORD)
    → LeastIsKept plan words (fresh_claims plan.passes ∷ [])
begins plan words positive sized full = record {
  sized = sized;
  whole = omega arith;
  spent = λ seat v e z. idle_snoc [] (fresh_claims plan.passes) (λ _. refl)
      (λ j u i. absurd (some-ne-none u (sym i))) seat v e z;
  low = λ g p h. absurd (omega arith);
  met = λ g lt. inl (full g lt);
  answered = λ g a h. absurd (omega arith);
  once = λ g lt. let e = full g lt in let t : (get_or words (suc g) 0 == NONE_WORD) ≡ true =
      eq-eqb (get_or words (suc g) 0) NONE_WORD e in sym (ap (λ b. cond b 0 1) t);
}

pub splits : (plan : ClaimsPlan) (seat : ℕ) (v : ClaimView) → 1 < v.stands_for
    → Splits (λ (s : State ℕ ClaimView). LeastIsKept plan s.words s.views) seat v
    (claims_for_one_less v) (fresh_claims 1)
splits plan seat v many s k at = let w = claims_for_one_less v in let vs = set s.views seat w in
    let stands : sum_by (λ u. u.stands_for) (vs ++ fresh_claims 1 ∷ []) ≡ sum_by (λ u. u.stands_for)
    s.views = (let a = sum_set (λ u. u.stands_for) s.views seat v w at in
    let b = sum_by_push (λ u. u.stands_for) vs (fresh_claims 1) in omega (arith, a, b)) in
    moved plan s.words s.views (vs ++ fresh_claims 1 ∷ []) k stands
    (idle_snoc vs (fresh_claims 1) (λ z. absurd (omega arith))
    (idle_set s.views seat w (λ z. absurd (omega arith)) k.spent))
    (λ q. let a = sum_set (λ u. calls_where q u.calls) s.views seat v w at in
    let b = sum_by_push (λ u. calls_where q u.calls) vs (fresh_claims 1) in omega (arith, a, b))

pub joins : (plan : ClaimsPlan) (seat : ℕ) (v : ClaimView) (other : ℕ) (u : ClaimView)
    → 0 < v.stands_for
    → Joins (λ (s : State ℕ ClaimView). LeastIsKept plan s.words s.views) seat v other u
    (claims_joined v u) (fresh_claims 0)
joins plan seat v other u positive s k at apart there = let w = claims_joined v u in
    let vs = set s.views seat w in
    let stands : sum_by (λ x. x.stands_for) (set vs other (fresh_claims 0))
    ≡ sum_by (λ x. x.stands_for) s.views =
    (let a = sum_set (λ x. x.stands_for) s.views seat v w at in
    let b = sum_set (λ x. x.stands_for) vs other u (fresh_claims 0) there in
    omega (arith, a, b)) in
    moved plan s.words s.views (set vs other (fresh_claims 0)) k stands
    (idle_set vs other (fresh_claims 0) (λ z. refl)
    (idle_set s.views seat w (λ z. absurd (omega arith)) k.spent))
    (λ q. let a = sum_set (λ x. calls_where q x.calls) s.views seat v w at in
    let b = sum_set (λ x. calls_where q x.calls) vs other u (fresh_claims 0) there in
    let c = count_append q v.calls u.calls in omega (arith, a, b, c))

-- a test of one group's calls says nothing of another group's
elsewhere : (g h x y : ℕ) → g ≢ h → ((g == h) && (x == y)) ≡ false
elsewhere g h x y n = ap (λ b. b && (x == y)) (ne_eqb g h n)

here : (g x y : ℕ) → x ≡ y → ((g == g) && (x == y)) ≡ true
here g x y e = ap (λ b. b && (x == y)) (eq-eqb g g refl) ∙ eq-eqb x y e

apart : (g x y : ℕ) → x ≢ y → ((g == g) && (x == y)) ≡ false
apart g x y n = ap (λ b. b && (x == y)) (eq-eqb g g refl) ∙ ne_eqb x y n

-- a group's claim, of all tests
module _ (plan : ClaimsPlan) (words : List ℕ) (views : List ClaimView) (seat : ℕ) (v : ClaimView)
    (g p : ℕ) (k : LeastIsKept plan words views) (at : get_elem? views seat ≡ some v)
    (in_range : g < plan.groups) (fits : p < NONE_WORD) where
  abbrev n : ℕ
  n = get_or words (suc g) 0

  abbrev after : List ClaimView
  after = set views seat (with_call v g p n)

  grows : (q : Call → Bool) → count_all q after ≡ count_all q views + cond (q (call_of g p n)) 1 0
  grows q = let a = sum_set (λ u. calls_where q u.calls) views seat v (with_call v g p n) at in
      let b = count_append q v.calls (call_of g p n ∷ []) in omega (arith, a, b)

  grows_here : (q : Call → Bool) → q (call_of g p n) ≡ true
      → count_all q after ≡ count_all q views + 1
  grows_here q e = grows q ∙ ap (λ b. count_all q views + cond b 1 0) e

  stays : (q : Call → Bool) → q (call_of g p n) ≡ false → count_all q after ≡ count_all q views
  stays q e = let r : count_all q after ≡ count_all q views + 0 =
      grows q ∙ ap (λ b. count_all q views + cond b 1 0) e in omega (arith, r)

  more : (q : Call → Bool) → 0 < count_all q views → 0 < count_all q after
  more q h = let r = grows q in omega (arith, r)

  abbrev words_after : List ℕ
  words_after = set words (suc g) (min n p)

  word_here : get_or words_after (suc g) 0 ≡ min n p
  word_here = get_or-set_same words (suc g) (min n p) 0 (let s = k.sized in omega (arith, s))

  word_else : (h : ℕ) → g ≢ h → get_or words_after (suc h) 0 ≡ get_or words (suc h) 0
  word_else h ne = get_or-set_other words (suc g) (suc h) (min n p) 0
      (λ (e : suc h ≡ suc g). ne (omega arith))

  low_after : (h x : ℕ) → 0 < count_all (is_call_at h x) after → get_or words_after (suc h) 0 ≤ x
  low_after h x some_there = dite (ℕ_discrete g h)
      (λ (e : g ≡ h). dite (ℕ_discrete p x)
      (λ (e' : p ≡ x). subst (λ (y : ℕ). get_or words_after (suc y) 0 ≤ x) e (let w = word_here in
      omega (arith, w)))
      (λ (ne : p ≢ x). let old : 0 < count_all (is_call_at g x)
      views = (let t = stays (is_call_at g x) (apart g p x ne) in
      let h' : 0 < count_all (is_call_at g x) after =
      subst (λ (y : ℕ). 0 < count_all (is_call_at y x) after) (sym e) some_there in
      omega (arith, t, h')) in
      let l = k.low g x old in
      subst (λ (y : ℕ). get_or words_after (suc y) 0 ≤ x) e (let w = word_here in
      let l' : n ≤ x = l in omega (arith, w, l'))))
      (λ (ne : g ≢ h). let old : 0 < count_all (is_call_at h x)
      views = (let t = stays (is_call_at h x) (elsewhere g h p x ne) in omega (arith, t)) in
      let w = word_else h ne in let l = k.low h x old in subst (λ (y : ℕ). y ≤ x) (sym w) l)

  abbrev Met : ℕ → ℕ → Type 0
  Met h y = (y ≡ NONE_WORD) ⊎ (0 < count_all (is_call_at h y) after)

  met_after : (h : ℕ) → h < plan.groups → (get_or words_after (suc h) 0 ≡ NONE_WORD) ⊎
      (0 < count_all (is_call_at h (get_or words_after (suc h) 0)) after)
  met_after h lt = dite (ℕ_discrete g h)
      (λ (e : g ≡ h). subst (λ (z : ℕ). Met z (get_or words_after (suc z) 0)) e
      (subst (Met g) (sym word_here) (dite (dec_le n p)
      (λ (le : n ≤ p). let m : min n p ≡ n = omega arith in
      subst (Met g) (sym m)
      (⊎_elim (λ (x : n ≡ NONE_WORD). absurd (omega arith))
      (λ (x : 0 < count_all (is_call_at g n) views). inr (more (is_call_at g n) x))
      (k.met g in_range)))
      (λ (gt : ¬ (n ≤ p)). let m : min n p ≡ p = omega arith in
      subst (Met g) (sym m)
      (inr (let t = grows_here (is_call_at g p) (here g p p refl) in omega (arith, t)))))))
      (λ (ne : g ≢ h). subst (Met h) (sym (word_else h ne))
      (⊎_elim (λ x. inl x) (λ x. inr (more (is_call_at h (get_or words (suc h) 0)) x))
      (k.met h lt)))

  answered_after : (h a : ℕ) → 0 < count_all (was_answered h a) after
      → (a ≡ NONE_WORD) ⊎ (0 < count_all (is_call_at h a) after)
  answered_after h a some_there = dite (ℕ_discrete g h)
      (λ (e : g ≡ h). dite (ℕ_discrete n a)
      (λ (e' : n ≡ a). subst (λ (z : ℕ). Met z a) e
      (subst (Met g) e'
      (⊎_elim (λ x. inl x) (λ x. inr (more (is_call_at g n) x)) (k.met g in_range))))
      (λ (ne : n ≢ a). older
      (subst (λ (z : ℕ). count_all (was_answered z a) after ≡ count_all (was_answered z a) views) e
      (stays (was_answered g a) (apart g n a ne)))))
      (λ (ne : g ≢ h). older (stays (was_answered h a) (elsewhere g h n a ne)))
    where
      older : count_all (was_answered h a) after ≡ count_all (was_answered h a) views → Met h a
      older t = ⊎_elim (λ x. inl x) (λ x. inr (more (is_call_at h a) x))
          (k.answered h a (omega (arith, t)))

  once_after : (h : ℕ) → h < plan.groups → count_all (was_answered h NONE_WORD) after
      ≡ cond (get_or words_after (suc h) 0 == NONE_WORD) 0 1
  once_after h lt = dite (ℕ_discrete g h)
      (λ (e : g ≡ h). subst
      (λ (z : ℕ). count_all (was_answered z NONE_WORD) after
      ≡ cond (get_or words_after (suc z) 0 == NONE_WORD) 0 1) e
      (let w = word_here in let f : (get_or words_after (suc g) 0 == NONE_WORD) ≡ false = ne_eqb
      (get_or words_after (suc g) 0) NONE_WORD (λ x. omega (arith, w, x)) in
      let r : count_all (was_answered g NONE_WORD) after ≡ 1 = dite (ℕ_discrete n NONE_WORD)
      (λ (z : n ≡ NONE_WORD). let t = grows_here (was_answered g NONE_WORD)
      (here g n NONE_WORD z) in
      let o = k.once g in_range ∙ ap (λ b. cond b 0 1) (eq-eqb n NONE_WORD z) in
      omega (arith, t, o))
      (λ (z : n ≢ NONE_WORD). let t = stays (was_answered g NONE_WORD) (apart g n NONE_WORD z) in
      let o = k.once g in_range ∙ ap (λ b. cond b 0 1) (ne_eqb n NONE_WORD z) in
      omega (arith, t, o)) in
      r ∙ sym (ap (λ b. cond b 0 1) f)))
      (λ (ne : g ≢ h). stays (was_answered h NONE_WORD) (elsewhere g h n NONE_WORD ne) ∙ k.once h lt
      ∙ sym (ap (λ (y : ℕ). cond (y == NONE_WORD) 0 1) (word_else h ne)))

  kept_after : 0 < v.stands_for → LeastIsKept plan words_after after
  kept_after positive = record {
    sized = (length-set words (suc g) (min n p)) ∙ k.sized;
    whole = (let a = sum_set (λ u. u.stands_for) views seat v (with_call v g p n) at in
        let w = k.whole in omega (arith, a, w));
    spent = (idle_set views seat (with_call v g p n) (λ e. absurd (omega arith)) k.spent);
    low = low_after;
    met = met_after;
    answered = answered_after;
    once = once_after;
  }

pub claims : (plan : ClaimsPlan) (slots seat : ℕ) (me : Me ℕ ClaimView) (i p : ℕ) → suc (i - 1) ≡ i
    → i - 1 < plan.groups → p < NONE_WORD → 0 < me.0.stands_for
    → Allows (λ (s : State ℕ ClaimView). LeastIsKept plan s.words s.views) slots seat me i
    (λ n. min n p) (IsClaimOf (step slots i p 0 none) me)
claims plan slots seat me i p e lt fits positive s k homes at small = (
  with_call me.0 (i - 1) p (get_or s.words i 0),
  keeps,
  tt,
  subst (λ (j : ℕ). LeastIsKept plan (set s.words j (min (get_or s.words j 0) p))
      (set s.views seat (with_call me.0 (i - 1) p (get_or s.words j 0)))) e
      (kept_after plan s.words s.views seat me.0 (i - 1) p k at lt fits positive),
  (
    refl,
    λ x some_here. subst (λ (j : ℕ). get_or s.words j 0 ≤ x) e
        (k.low (i - 1) x (let o = one_of (λ u. calls_where (is_call_at (i - 1) x) u.calls) s.views
        seat me.0 at in omega (arith, o))),
  ),
)

pub begins_full : (plan : ClaimsPlan) (words : List ℕ) → 0 < plan.passes
    → words ≡ replicate (plan.groups + 1) NONE_WORD
    → LeastIsKept plan words (fresh_claims plan.passes ∷ [])
begins_full plan words positive e =
    begins plan words positive
    (let l = ap length e ∙ length-replicate (plan.groups + 1) NONE_WORD in omega (arith, l))
    (λ g lt. ap (λ (ws : List ℕ). get_or ws (suc g) 0) e ∙ get_or-replicate (plan.groups + 1)
    (suc g) NONE_WORD 0 (omega arith))
