-- Each step keeps a state sound and each word the least entry that was claimed.
use Rattle.std.proofs.Common.{◌≡◌, ◌≢◌, ℕ, suc, ◌+◌, ◌<◌, ◌≤◌, ◌==◌, ◌&&◌, ◌⊎◌, min, not, nat_lt}
use Rattle.std.proofs.Common.{nat_le, Bool, true, false, true≢false, cond, eq-eqb, List, [], ◌∷◌}
use Rattle.std.proofs.Common.{◌++◌, get_or, length, replicate, refl, sym, ap, subst, ◌∙◌, inl, inr}
use Rattle.std.proofs.Common.{⊎_elim, arith, get_or-set_other, get_or-set_same, length-set, Result}
use Rattle.std.proofs.Common.{Ok, Err}
use Rattle.std.proofs.lemmas.List.{length-replicate, get_or-replicate}
use Rattle.std.proofs.lemmas.Bool.{and_parts, ltb-true, leb-true, not-true}
use mathlib.Core.Logic.{dite}
use native.Mathlib.Decide.{dec_le, ℕ_discrete}
use Rattle.walk_steps.specs.declared.machine.TheConstants.{NONE_WORD}
use Rattle.walk_steps.specs.declared.machine.WalkState.{WalkState}
use Rattle.walk_steps.specs.declared.shape.Shape.{Shape}
use Rattle.walk_steps.specs.declared.steps.Step.{Step}
use Rattle.walk_steps.specs.declared.steps.Step.TheVariants.{Take, Offer, Claim}
use Rattle.walk_steps.specs.Shaped.{last_job, parent_job, group_of_entry, entry_count, home_of}
use Rattle.walk_steps.specs.Shaped.{IsValid}
use Rattle.walk_steps.specs.Lists.{is_in, list_of, added_to, lowered, hit, times, times_in_all}
use Rattle.walk_steps.specs.Machine.{first_state, is_empty, is_allowed, after_take, after_offer}
use Rattle.walk_steps.specs.Machine.{after_claim, step_after, run_from, steps_from}
use Rattle.walk_steps.specs.Sound.{Sound, WordsAreLeast, claims_of, claimed_by}
use Rattle.walk_steps.proofs.ListLemmas.{hit_same, hit_other, hit_small, times_append, in_times}
use Rattle.walk_steps.proofs.ListLemmas.{out_times, in_range, added_total, added_length, added_here}
use Rattle.walk_steps.proofs.ListLemmas.{added_else, added_keeps, one_list, two_lists, someone}
use Rattle.walk_steps.proofs.ListLemmas.{none_in_empty}

begins_sound : (shape : Shape) (workers : ℕ) → Sound shape (first_state shape workers)
begins_sound shape workers = record {
  workers = refl;
  placed = λ j. let a = none_in_empty j workers in omega (arith, a);
  once = λ j. let a = none_in_empty j workers in let h = hit_small 0 j in omega (arith, a, h);
  inside = λ j h. absurd (let a = none_in_empty j workers in omega (arith, a, h));
  parents = λ w j h. absurd (let a = none_in_empty j workers in
      let o = one_list j w (replicate workers []) in omega (arith, a, o, h));
}

sound_take : (shape : Shape) (state : WalkState) (worker : ℕ) (queue : List ℕ) → state.queue ≡ queue
    → is_empty queue ≡ false → worker < length state.taken → Sound shape state
    → Sound shape (after_take state queue worker)
sound_take shape state worker [] is full lt s = absurd (true≢false full)
sound_take shape state worker (job ∷ queue) is full lt s = record {
  workers = s.workers ∙ sym (added_length job worker state.taken);
  placed = λ j. let a = added_total j job worker state.taken lt in let b = s.placed j in
      let q : times j state.queue ≡ hit job j + times j queue = ap (times j) is in
      omega (arith, a, b, q);
  once = λ j. let a = added_total j job worker state.taken lt in let b = s.once j in
      let q : times j state.queue ≡ hit job j + times j queue = ap (times j) is in
      omega (arith, a, b, q);
  inside = s.inside;
  parents = λ w j h. let p = s.parents w j h in
      let k = added_keeps (parent_job shape j) job worker w state.taken lt in omega (arith, p, k);
}

-- a job that this worker took the parent of, and did not give, was given by none
ungiven : (shape : Shape) (state : WalkState) (worker job : ℕ)
    → 0 < times (parent_job shape job) (list_of state.taken worker)
    → times job (list_of state.given worker) ≡ 0 → Sound shape state → times_in_all job state.given
    ≡ 0
ungiven shape state worker job has_parent not_given s =
    dite (dec_le 1 (times_in_all job state.given))
    (λ (le : 1 ≤ times_in_all job state.given). let g = someone job state.given le in
    dite (ℕ_discrete worker g.0)
    (λ (e : worker ≡ g.0). absurd
    (let z : times job (list_of state.given g.0)
    ≡ 0 = subst (λ (w : ℕ). times job (list_of state.given w) ≡ 0) e not_given in let k = g.1 in
    omega (arith, z, k)))
    (λ (ne : worker ≢ g.0). absurd (let p = s.parents g.0 job g.1 in
    let two = two_lists (parent_job shape job) worker g.0 state.taken ne in
    let o = s.once (parent_job shape job) in omega (arith, p, two, o, has_parent))))
    (λ (no : ¬ (1 ≤ times_in_all job state.given)). omega arith)

sound_offer : (shape : Shape) (state : WalkState) (worker job : ℕ) → 0 < job → job ≤ last_job shape
    → 0 < times (parent_job shape job) (list_of state.taken worker)
    → times job (list_of state.given worker) ≡ 0
    → Sound shape state → Sound shape (after_offer state worker job)
sound_offer shape state worker job positive within has_parent not_given s = record {
  workers = added_length job worker state.given ∙ s.workers;
  placed = λ j. let a = total j in let b = s.placed j in
      let q = times_append j state.queue (job ∷ []) in omega (arith, a, b, q);
  once = λ j. let b = s.once j in let q = times_append j state.queue (job ∷ []) in
      dite (ℕ_discrete job j)
      (λ (e : job ≡ j). let h = hit_same job j e in
      let z : times j state.queue + times_in_all j state.taken ≡ 0 =
      subst (λ (k : ℕ). times k state.queue + times_in_all k state.taken ≡ 0) e unplaced in
      omega (arith, q, h, z))
      (λ (ne : job ≢ j). let h = hit_other job j ne in omega (arith, b, q, h));
  inside = λ j h. dite (ℕ_discrete job j)
      (λ (e : job ≡ j). subst (λ (k : ℕ). (0 < k) × (k ≤ last_job shape)) e (positive, within))
      (λ (ne : job ≢ j). s.inside j (let a = total j in let z = hit_other job j ne in
      omega (arith, a, z, h)));
  parents = λ w j h. dite (ℕ_discrete worker w)
      (λ (e : worker ≡ w). subst (λ (v : ℕ). 0 < times (parent_job shape j) (list_of state.taken v))
      e (mine j (subst (λ (v : ℕ). 0 < times j (list_of (added_to state.given worker job) v))
      (sym e) h)))
      (λ (ne : worker ≢ w). s.parents w j (let a = added_else j job worker w state.given ne in
      omega (arith, a, h)));
}
  where
    lt : worker < length state.given
    lt = let r = in_range (parent_job shape job) worker state.taken has_parent in
        let e = s.workers in omega (arith, r, e)

    total : (j : ℕ) → times_in_all j (added_to state.given worker job) ≡ times_in_all j
        state.given + hit job j
    total j = added_total j job worker state.given lt

    unplaced : times job state.queue + times_in_all job state.taken ≡ 0
    unplaced = let p = s.placed job in let u = ungiven shape state worker job has_parent not_given
        s in let z = hit_other 0 job (λ e. omega (arith, positive, e)) in omega (arith, p, u, z)

    mine : (j : ℕ) → 0 < times j (list_of (added_to state.given worker job) worker)
        → 0 < times (parent_job shape j) (list_of state.taken worker)
    mine j h = dite (ℕ_discrete job j)
        (λ (e : job ≡ j). subst
        (λ (k : ℕ). 0 < times (parent_job shape k) (list_of state.taken worker)) e has_parent)
        (λ (ne : job ≢ j). s.parents worker j (let a = added_here j job worker state.given lt in
        let z = hit_other job j ne in omega (arith, a, z, h)))

sound_claim : (shape : Shape) (state : WalkState) (entry : ℕ) → Sound shape state
    → Sound shape (after_claim shape state entry)
sound_claim shape state entry s =
    record {
      workers = s.workers;
      placed = s.placed;
      once = s.once;
      inside = s.inside;
      parents = s.parents;
    }

sound_step : (shape : Shape) (state : WalkState) (step : Step) → is_allowed shape state step ≡ true
    → Sound shape state → Sound shape (step_after shape state step)
sound_step shape state (Take worker) e s = let p = and_parts (nat_lt worker (length state.taken))
    (not (is_empty state.queue)) e in
    sound_take shape state worker state.queue refl (not-true (is_empty state.queue) p.1)
    (ltb-true _ _ p.0) s
sound_step shape state (Offer worker job) e s =
    let p = and_parts (not (job == 0) && nat_le job (last_job shape))
    (is_in (parent_job shape job) (list_of state.taken worker) && not
    (is_in job (list_of state.given worker))) e in
    let a = and_parts (not (job == 0)) (nat_le job (last_job shape)) p.0 in
    let b = and_parts (is_in (parent_job shape job) (list_of state.taken worker))
    (not (is_in job (list_of state.given worker))) p.1 in
    sound_offer shape state worker job (positive (not-true (job == 0) a.0)) (leb-true _ _ a.1)
    (in_times _ _ b.0) (out_times _ _ (not-true _ b.1)) s
  where
    positive : (job == 0) ≡ false → 0 < job
    positive f =
        dite (ℕ_discrete job 0) (λ (z : job ≡ 0). absurd (true≢false (sym (eq-eqb job 0 z) ∙ f)))
        (λ (z : job ≢ 0). omega arith)
sound_step shape state (Claim worker entry) e s = sound_claim shape state entry s

-- the words of one claim more
least_claim : (shape : Shape) (claimed words : List ℕ) (entry : ℕ) → group_of_entry shape entry
    < shape.groups → WordsAreLeast shape claimed words → WordsAreLeast shape (claimed ++ entry ∷ [])
    (lowered words (group_of_entry shape entry) entry)
least_claim shape claimed words entry in_group w = record {
  sized = length-set words own (min (get_or words own 0) entry) ∙ w.sized;
  least = λ g lt. record { low = low g lt; met = met g lt };
}
  where
    own : ℕ
    own = group_of_entry shape entry

    Fact : ℕ → ℕ → Type 0
    Fact g e = (0 < times e (claimed ++ entry ∷ [])) × (group_of_entry shape e ≡ g)

    here : get_or (lowered words own entry) own 0 ≡ min (get_or words own 0) entry
    here = get_or-set_same words own (min (get_or words own 0) entry) 0 (let s = w.sized in
        omega (arith, s, in_group))

    else_where : (g : ℕ) → own ≢ g → get_or (lowered words own entry) g 0 ≡ get_or words g 0
    else_where g ne = get_or-set_other words own g (min (get_or words own 0) entry) 0
        (λ e. ne (sym e))

    older : (e : ℕ) → entry ≢ e → 0 < times e (claimed ++ entry ∷ []) → 0 < times e claimed
    older e ne h = let a = times_append e claimed (entry ∷ []) in let z = hit_other entry e ne in
        omega (arith, a, z, h)

    low : (g : ℕ) → g < shape.groups → (e : ℕ) → Fact g e → get_or (lowered words own entry) g 0 ≤ e
    low g lt e f = dite (ℕ_discrete own g)
        (λ (s : own ≡ g). subst (λ (k : ℕ). get_or (lowered words own entry) k 0 ≤ e) s
        (dite (ℕ_discrete entry e)
        (λ (i : entry ≡ e). let h = here in omega (arith, h, i))
        (λ (ne : entry ≢ e). let h = here in
        let o = (w.least own in_group).low e (older e ne f.0, f.1 ∙ sym s) in
        omega (arith, h, o))))
        (λ (ne : own ≢ g). let h = else_where g ne in
        let o = (w.least g lt).low e
        (older e (λ i. ne (ap (group_of_entry shape) i ∙ f.1)) f.0, f.1) in omega (arith, h, o))

    more : (e g : ℕ) → (0 < times e claimed) × (group_of_entry shape e ≡ g) → Fact g e
    more e g f = (
      let a = times_append e claimed (entry ∷ []) in let k = f.0 in
          omega (arith, a, k),
      f.1,
    )

    Met : ℕ → ℕ → Type 0
    Met g n = (n ≡ NONE_WORD) ⊎ Fact g n

    kept : (g : ℕ) → g < shape.groups → Met g (get_or words g 0)
    kept g lt = ⊎_elim (λ e. inl e) (λ f. inr (more (get_or words g 0) g f)) ((w.least g lt).met)

    fresh : Met own entry
    fresh = inr (
      let a = times_append entry claimed (entry ∷ []) in
          let h = hit_same entry entry refl in omega (arith, a, h),
      refl,
    )

    met : (g : ℕ) → g < shape.groups → Met g (get_or (lowered words own entry) g 0)
    met g lt = dite (ℕ_discrete own g)
        (λ (s : own ≡ g). subst (λ (k : ℕ). Met k (get_or (lowered words own entry) k 0)) s
        (subst (Met own) (sym here) (dite (dec_le (get_or words own 0) entry)
        (λ (le : get_or words own 0 ≤ entry). let m : get_or words own 0 ≡ min (get_or words own 0)
        entry = omega arith in subst (Met own) m (kept own in_group))
        (λ (gt : ¬ (get_or words own 0 ≤ entry)). let m : entry ≡ min (get_or words own 0)
        entry = omega arith in subst (Met own) m fresh))))
        (λ (ne : own ≢ g). subst (Met g) (sym (else_where g ne)) (kept g lt))

begins_least : (shape : Shape) (workers : ℕ)
    → WordsAreLeast shape [] (first_state shape workers).words
begins_least shape workers = record {
  sized = length-replicate shape.groups NONE_WORD;
  least = λ g lt. record {
    low = λ e f. absurd (let a = f.0 in omega (arith, a));
    met = inl
        (get_or-replicate shape.groups g NONE_WORD 0 lt);
  };
}

append_nil : (xs : List ℕ) → xs ++ [] ≡ xs
append_nil [] = refl
append_nil (x ∷ xs) = ap (λ ys. x ∷ ys) (append_nil xs)

append_three : (xs ys zs : List ℕ) → (xs ++ ys) ++ zs ≡ xs ++ (ys ++ zs)
append_three [] ys zs = refl
append_three (x ∷ xs) ys zs = ap (λ s. x ∷ s) (append_three xs ys zs)

take_words : (state : WalkState) (queue : List ℕ) (worker : ℕ)
    → (after_take state queue worker).words ≡ state.words
take_words state [] worker = refl
take_words state (job ∷ queue) worker = refl

least_step : (shape : Shape) (claimed : List ℕ) (state : WalkState) (step : Step) → IsValid shape
    → is_allowed shape state step ≡ true → WordsAreLeast shape claimed state.words
    → WordsAreLeast shape (claimed ++ claims_of step) (step_after shape state step).words
least_step shape claimed state (Take worker) v e w =
    subst (λ (z : List ℕ × List ℕ). WordsAreLeast shape z.0 z.1)
    (λ i. (sym (append_nil claimed) i, sym (take_words state state.queue worker) i)) w
least_step shape claimed state (Offer worker job) v e w =
    subst (λ (cs : List ℕ). WordsAreLeast shape cs state.words) (sym (append_nil claimed)) w
least_step shape claimed state (Claim worker entry) v e w =
    least_claim shape claimed state.words entry
    (v.groups entry
    (ltb-true _ _
    (and_parts (nat_lt entry (entry_count shape))
    (is_in (home_of shape entry) (list_of state.taken worker)) e).0)) w

value_of : WalkState → Result WalkState ℕ → WalkState
value_of other (Ok state) = state
value_of other (Err index) = other

succeeds : Result WalkState ℕ → Bool
succeeds (Ok state) = true
succeeds (Err index) = false

-- what holds of a state and of what was claimed before holds of the end and of all that was claimed
abbrev Holds : Shape → List ℕ → WalkState → Type 0
Holds shape claimed state = Sound shape state × WordsAreLeast shape claimed state.words

reached : (shape : Shape) (claimed : List ℕ) (state : WalkState) (index : ℕ) (steps : List Step)
    (end : WalkState) → IsValid shape → Holds shape claimed state → run_from shape state index steps
    ≡ Ok end
    → Holds shape (claimed ++ claimed_by steps) end
unfolding value_of succeeds
reached shape claimed state index [] end v h is =
    subst (Holds shape (claimed ++ [])) (ap (value_of state) is)
    (subst (λ (cs : List ℕ). Holds shape cs state) (sym (append_nil claimed)) h)
reached shape claimed state index (step ∷ steps) end v h is =
    go (λ e left. reached shape (claimed ++ claims_of step) (step_after shape state step)
    (suc index) steps end v
    (sound_step shape state step e h.0, least_step shape claimed state step v e h.1) left)
    (is_allowed shape state step) refl
  where
    Left : Type 0
    Left = run_from shape (step_after shape state step) (suc index) steps ≡ Ok end

    chosen : (b : Bool) → is_allowed shape state step ≡ b
        → cond b (run_from shape (step_after shape state step) (suc index) steps) (Err index)
        ≡ Ok end
    chosen b e =
        sym (ap (λ c. cond c (run_from shape (step_after shape state step) (suc index) steps)
        (Err index)) e) ∙ is

    go : (is_allowed shape state step ≡ true → Left
        → Holds shape ((claimed ++ claims_of step) ++ claimed_by steps) end) → (b : Bool)
        → is_allowed shape state step ≡ b
        → Holds shape (claimed ++ (claims_of step ++ claimed_by steps)) end
    go further true e =
        subst (λ (cs : List ℕ). Holds shape cs end)
        (append_three claimed (claims_of step) (claimed_by steps)) (further e (chosen true e))
    go further false e = absurd (true≢false (sym (ap succeeds (chosen false e))))

pub reached_is_sound : (shape : Shape) (workers : ℕ) (steps : List Step) (end : WalkState)
    → IsValid shape → steps_from shape workers steps ≡ Ok end → Sound shape end
reached_is_sound shape workers steps end v is =
    (reached shape [] (first_state shape workers) 0 steps end v
    (begins_sound shape workers, begins_least shape workers) is).0

pub reached_is_least : (shape : Shape) (workers : ℕ) (steps : List Step) (end : WalkState)
    → IsValid shape → steps_from shape workers steps ≡ Ok end
    → WordsAreLeast shape (claimed_by steps) end.words
reached_is_least shape workers steps end v is =
    (reached shape [] (first_state shape workers) 0 steps end v
    (begins_sound shape workers, begins_least shape workers) is).1
