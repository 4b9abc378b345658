-- Each step keeps the rule of the queue.
use Rattle.std.proofs.Common.{◌≡◌, ◌≢◌, ℕ, zero, suc, ◌+◌, ◌<◌, ◌≤◌, false, true≢false, List, []}
use Rattle.std.proofs.Common.{◌∷◌, ◌++◌, set, length, refl, sym, ap, subst, ◌∙◌, inl, inr, ⊎_elim}
use Rattle.std.proofs.Common.{arith, sum_by}
use mathlib.Core.Option.{some, some-injective, some-ne-none}
use mathlib.Core.Logic.{dite}
use native.Mathlib.Decide.{dec_le, ℕ_discrete}
use lib.ListN.{get_elem?}
use Rattle.crossbeam_queue.specs.Fifo.{Pushes, Pops, Forks, Merges, Learns}
use Rattle.crossbeam_queue.proofs.Lists.{at_set, at_snoc}
use Rattle.dir_queue.specs.declared.rule.Job.{Job}
use Rattle.dir_queue.specs.declared.rule.QueueView.{QueueView}
use Rattle.label_base.proofs.SumLemmas.{sum_set, one_of, only, two_of, someone}
use Rattle.std.proofs.lemmas.List.Sums.{sum_by_push}
use Rattle.walk_steps.proofs.ListLemmas.{times_append, hit_same, hit_other}
use Rattle.walk_steps.specs.Lists.{hit, times}
use Rattle.dir_queue.specs.Passes.{not_set_up, fresh_queue, spent, with_job_given, with_taken}
use Rattle.dir_queue.specs.Passes.{queue_for_one_less, for_one, queues_joined, parent_in, MayOffer}
use Rattle.dir_queue.specs.Passes.{HoldsEachOnce}
use Rattle.dir_queue.specs.Rule.{waiting, all_taken, all_given, FitsQueue, NothingLost, IsJobKept}
use Rattle.dir_queue.specs.Rule.{IsSetUp, NothingWaits, IsOfferOf, HasQueueRoom, IsTakeOf, Accounts}
use Rattle.dir_queue.proofs.Room.{room}

queued_snoc : (j : ℕ) (xs : List Job) (x : Job) → waiting j (xs ++ x ∷ []) ≡ waiting j xs + hit
    x.number j
queued_snoc j [] x = omega arith
queued_snoc j (y ∷ ys) x = let r = queued_snoc j ys x in omega (arith, r)

pub root_one : (j : ℕ) → j ≡ 0 → hit 0 j ≡ 1
root_one j e = hit_same 0 j (sym e)

root_zero : (j : ℕ) → j ≢ 0 → hit 0 j ≡ 0
root_zero j ne = hit_other 0 j (λ e. ne (sym e))

fit_of : (parents : List ℕ) (passes : ℕ) (v : QueueView) → v.is_new ≡ false
    → (v.stands_for ≡ 0 → (v.taken ≡ []) × (v.given ≡ []))
    → (0 < v.stands_for → (v.parents ≡ parents) × (v.passes ≡ passes))
    → ((j : ℕ) → 0 < times j v.given → 0 < times (parent_in parents j) v.taken)
    → FitsQueue parents passes v
fit_of parents passes v b e p u = record { begun = b; empty = e; plan = p; under = u }

abbrev AllFit : List ℕ → ℕ → List QueueView → Type 0
AllFit parents passes views = (p : ℕ) (v : QueueView) → get_elem? views p ≡ some v
    → FitsQueue parents passes v

fit_set : (parents : List ℕ) (passes : ℕ) (views : List QueueView) (seat : ℕ) (w : QueueView)
    → FitsQueue parents passes w → AllFit parents passes views
    → AllFit parents passes (set views seat w)
fit_set parents passes views seat w mine h j u e =
    ⊎_elim (λ (t : (j ≡ seat) × (w ≡ u)). subst (FitsQueue parents passes) t.1 mine)
    (λ (t : (j ≢ seat) × (get_elem? views j ≡ some u)). h j u t.1) (at_set views seat j w u e)

fit_snoc : (parents : List ℕ) (passes : ℕ) (views : List QueueView) (w : QueueView)
    → FitsQueue parents passes w → AllFit parents passes views
    → AllFit parents passes (views ++ w ∷ [])
fit_snoc parents passes views w mine h j u e =
    ⊎_elim (λ t. h j u t) (λ (t : w ≡ u). subst (FitsQueue parents passes) t mine)
    (at_snoc views w u j e)

at_first : (v u : QueueView) (seat : ℕ) → get_elem? (v ∷ []) seat ≡ some u → (seat ≡ 0) × (v ≡ u)
at_first v u zero e = (refl, some-injective v u e)
at_first v u (suc seat) e = absurd (some-ne-none u (sym e))

-- what a live pass knows of the rule
runs : (items : List Job) (views : List QueueView) (seat : ℕ) (v : QueueView)
    → IsJobKept items views → get_elem? views seat ≡ some v → v.is_new ≡ false → 0 < v.stands_for
    → NothingLost v.parents v.passes items views
runs items views seat v (inl t) at begun live =
    absurd (true≢false
    (ap (λ (u : QueueView). u.is_new)
    (at_first not_set_up v seat (subst (λ (vs : List QueueView). get_elem? vs seat ≡ some v) t.1
    at)).1 ∙ begun))
runs items views seat v (inr t) at begun live = let f = (t.2.fits seat v at).plan live in
    subst (λ (z : List ℕ × ℕ). NothingLost z.0 z.1 items views) (λ i. (sym f.0 i, sym f.1 i)) t.2

pub starts : (n seat : ℕ) (x : Job) → x.number ≡ 0 → 0 < x.plan.value.passes
    → Pushes IsJobKept n seat not_set_up x (IsSetUp not_set_up x)
starts n seat x first some_passes items views room_here (inr t) at =
    absurd (true≢false ((t.2.fits seat not_set_up at).begun))
starts n seat x first some_passes items views room_here (inl t) at = (
  w,
  subst (λ (z : List Job × List QueueView). IsJobKept (z.0 ++ x ∷ []) (set z.1 seat w))
      (λ i. (sym t.0 i, sym t.1 i))
      (subst (λ (k : ℕ). IsJobKept (x ∷ []) (set (not_set_up ∷ []) k w))
      (sym here) (inr (parents, passes, run))),
  refl,
)
  where
    parents : List ℕ
    parents = x.plan.value.shape.value.parents

    passes : ℕ
    passes = x.plan.value.passes

    w : QueueView
    w = fresh_queue parents passes passes

    here : seat ≡ 0
    here = (at_first not_set_up not_set_up seat
        (subst (λ (vs : List QueueView). get_elem? vs seat ≡ some not_set_up) t.1 at)).0

    mine : FitsQueue parents passes w
    mine = fit_of parents passes w refl (λ _. (refl, refl)) (λ _. (refl, refl))
        (λ j h. absurd (omega arith))

    run : NothingLost parents passes (x ∷ []) (w ∷ [])
    run = record {
      whole = omega arith;
      fits = λ p v e. subst (FitsQueue parents passes) (at_first w v p e).1 mine;
      placed = λ j. dite (ℕ_discrete j 0)
          (λ (z : j ≡ 0). let a = hit_same x.number j (first ∙ sym z) in let b = root_one j z in
          omega (arith, a, b)) (λ (z : j ≢ 0). let a =
          hit_other x.number j (λ e. z (sym e ∙ first)) in let b = root_zero j z in
          omega (arith, a, b));
      once = λ j. dite (ℕ_discrete j 0) (λ (z : j ≡ 0). let b = root_one j z in omega (arith, b))
          (λ (z : j ≢ 0). let b = root_zero j z in omega (arith, b));
      inside = λ j h. absurd (omega arith);
    }

pub start_empty : (seat : ℕ) → Learns IsJobKept seat not_set_up (NothingWaits not_set_up)
start_empty seat items views (inl t) at = t.0
start_empty seat items views (inr t) at = absurd (true≢false ((t.2.fits seat not_set_up at).begun))

-- the views may change as they like, while their lists stay the same in sum
moved : (parents : List ℕ) (passes : ℕ) (items : List Job) (views after : List QueueView)
    → NothingLost parents passes items views → sum_by (λ v. v.stands_for) after
    ≡ sum_by (λ v. v.stands_for) views → AllFit parents passes after
    → ((j : ℕ) → all_taken j after ≡ all_taken j views)
    → ((j : ℕ) → all_given j after ≡ all_given j views) → NothingLost parents passes items after
moved parents passes items views after r stands fit taken given = record {
  whole = stands ∙ r.whole;
  fits = fit;
  placed = λ j. let a = taken j in let b = given j in let c = r.placed j in omega (arith, a, b, c);
  once = λ j. let b = given j in let c = r.once j in omega (arith, b, c);
  inside = λ j h. r.inside j (let b = given j in omega (arith, b, h));
}

pub forks : (seat : ℕ) (v : QueueView) → v.is_new ≡ false → 1 < v.stands_for
    → Forks IsJobKept seat v (queue_for_one_less v) (for_one v)
forks seat v begun many items views h at = let r =
    runs items views seat v h at begun (omega arith) in let f = r.fits seat v at in
    let vs = set views seat (queue_for_one_less v) in
    inr (
      v.parents,
      v.passes,
      moved v.parents v.passes items views (vs ++ for_one v ∷ []) r
          (let a = sum_set (λ u. u.stands_for) views seat v (queue_for_one_less v) at in
          let b = sum_by_push (λ u. u.stands_for) vs (for_one v) in omega (arith, a, b))
          (fit_snoc v.parents v.passes vs (for_one v)
          (fit_of v.parents v.passes (for_one v) refl (λ z. absurd (omega arith))
          (λ _. (refl, refl)) (λ j e. absurd (omega arith)))
          (fit_set v.parents v.passes views seat (queue_for_one_less v)
          (fit_of v.parents v.passes (queue_for_one_less v) begun (λ z. absurd (omega arith))
          (λ _. (refl, refl)) f.under) r.fits))
          (λ j. let a = sum_set (λ u. times j u.taken) views seat v (queue_for_one_less v) at in
          let b = sum_by_push (λ u. times j u.taken) vs (for_one v) in omega (arith, a, b))
          (λ j. let a = sum_set (λ u. times j u.given) views seat v (queue_for_one_less v) at in
          let b = sum_by_push (λ u. times j u.given) vs (for_one v) in omega (arith, a, b)),
    )

pub merges : (seat : ℕ) (v : QueueView) (other : ℕ) (u : QueueView) → v.is_new ≡ false
    → 0 < v.stands_for → Merges IsJobKept seat v other u (queues_joined v u) spent
merges seat v other u begun live items views h at apart there = let r =
    runs items views seat v h at begun live in let f = r.fits seat v at in
    let w = queues_joined v u in let vs = set views seat w in
    let was : get_elem? views other ≡ some u =
    ⊎_elim (λ x. absurd (apart x.0)) (λ x. x.1) (at_set views seat other w u there) in
    let g = r.fits other u was in
    let under : (j : ℕ) → 0 < times j w.given → 0 < times (parent_in v.parents j) w.taken =
    (λ j e. let a = times_append j v.given u.given in
    let b = times_append (parent_in v.parents j) v.taken u.taken in
    dite (dec_le 1 (times j v.given)) (λ (le : 1 ≤ times j v.given). let k = f.under j le in
    omega (arith, b, k)) (λ (no : ¬ (1 ≤ times j v.given)). let k =
    g.under j (omega (arith, a, e)) in omega (arith, b, k))) in
    inr (
      v.parents,
      v.passes,
      moved v.parents v.passes items views (set vs other spent) r
          (let a = sum_set (λ x. x.stands_for) views seat v w at in
          let b = sum_set (λ x. x.stands_for) vs other u spent there in omega (arith, a, b))
          (fit_set v.parents v.passes vs other spent
          (fit_of v.parents v.passes spent refl (λ _. (refl, refl)) (λ z. absurd (omega arith))
          (λ j e. absurd (omega arith)))
          (fit_set v.parents v.passes views seat w
          (fit_of v.parents v.passes w begun (λ z. absurd (omega arith)) (λ _. (refl, refl))
          under) r.fits))
          (λ j. let a = sum_set (λ x. times j x.taken) views seat v w at in
          let b = sum_set (λ x. times j x.taken) vs other u spent there in
          let c = times_append j v.taken u.taken in omega (arith, a, b, c))
          (λ j. let a = sum_set (λ x. times j x.given) views seat v w at in
          let b = sum_set (λ x. times j x.given) vs other u spent there in
          let c = times_append j v.given u.given in omega (arith, a, b, c)),
    )

-- a job that this pass may give was given by none
ungiven : (items : List Job) (views : List QueueView) (seat : ℕ) (v : QueueView) (j : ℕ)
    → NothingLost v.parents v.passes items views → get_elem? views seat ≡ some v → MayOffer v j
    → all_given j views ≡ 0
ungiven items views seat v j r at may = dite (dec_le 1 (all_given j views))
    (λ (le : 1 ≤ all_given j views). let s = someone (λ u. times j u.given) views le in
    absurd (dite (ℕ_discrete s.0 seat)
    (λ (e : s.0 ≡ seat). let same : s.1 ≡ v = some-injective s.1 v
    (sym s.2 ∙ ap (λ k. get_elem? views k) e ∙ at) in let z : times j s.1.given ≡ 0 =
    ap (λ (u : QueueView). times j u.given) same ∙ may.new in omega (arith, z, s.3))
    (λ (ne : s.0 ≢ seat). let k = (r.fits s.0 s.1 s.2).under j s.3 in
    let p = parent_in v.parents j in let two =
    two_of (λ u. times (parent_in v.parents j) u.taken) views s.0 seat s.1 v ne s.2 at in
    let a = r.placed (parent_in v.parents j) in let b = r.once (parent_in v.parents j) in
    omega (arith, k, two, a, b, may.parent))))
    (λ (no : ¬ (1 ≤ all_given j views)). omega arith)

pub offers : (n seat : ℕ) (v : QueueView) (x : Job) → v.is_new ≡ false → 0 < v.stands_for
    → MayOffer v x.number → Pushes IsJobKept n seat v x (IsOfferOf v x)
offers n seat v x begun live may items views room_here h at =
    (w, inr (v.parents, v.passes, run), refl)
  where
    r : NothingLost v.parents v.passes items views
    r = runs items views seat v h at begun live

    w : QueueView
    w = with_job_given v x.number

    nobody : all_given x.number views ≡ 0
    nobody = ungiven items views seat v x.number r at may

    given : (j : ℕ) → all_given j (set views seat w) ≡ all_given j views + hit x.number j
    given j = let a = sum_set (λ u. times j u.given) views seat v w at in
        let b = times_append j v.given (x.number ∷ []) in omega (arith, a, b)

    taken : (j : ℕ) → all_taken j (set views seat w) ≡ all_taken j views
    taken j = let a = sum_set (λ u. times j u.taken) views seat v w at in omega (arith, a)

    run : NothingLost v.parents v.passes (items ++ x ∷ []) (set views seat w)
    run = record {
      whole = (let a = sum_set (λ u. u.stands_for) views seat v w at in let b = r.whole in
          omega (arith, a, b));
      fits = fit_set v.parents v.passes views seat w
          (fit_of v.parents v.passes w begun (λ z. absurd (omega arith)) (λ _. (refl, refl))
          (λ j e. dite (ℕ_discrete x.number j)
          (λ (same : x.number ≡ j). subst (λ (k : ℕ). 0 < times (parent_in v.parents k) v.taken)
          same may.parent)
          (λ (ne : x.number ≢ j). (r.fits seat v at).under j
          (let a = times_append j v.given (x.number ∷ []) in let b = hit_other x.number j ne in
          omega (arith, a, b, e))))) r.fits;
      placed = λ j. let a = given j in let b = taken j in let c = r.placed j in
          let d = queued_snoc j items x in omega (arith, a, b, c, d);
      once = λ j. dite (ℕ_discrete x.number j)
          (λ (e : x.number ≡ j). let a = given j in let b = hit_same x.number j e in
          let c : all_given j views ≡ 0 = ap (λ (k : ℕ). all_given k views) (sym e) ∙ nobody in
          let d = root_zero j (λ z. let p = may.positive in omega (arith, e, z, p)) in
          omega (arith, a, b, c, d))
          (λ (ne : x.number ≢ j). let a = given j in let b = hit_other x.number j ne in
          let c = r.once j in omega (arith, a, b, c));
      inside = λ j k. dite (ℕ_discrete x.number j)
          (λ (e : x.number ≡ j). let p = may.within in omega (arith, e, p))
          (λ (ne : x.number ≢ j). r.inside j (let a = given j in let b = hit_other x.number j ne in
          omega (arith, a, b, k)));
    }

pub rooms : (seat : ℕ) (v : QueueView) → v.is_new ≡ false → 0 < v.stands_for
    → Learns IsJobKept seat v (HasQueueRoom v)
rooms seat v begun live items views h at j may = let r = runs items views seat v h at begun live in
    let none_given = ungiven items views seat v j r at may in
    let one : (k : ℕ) → waiting k items ≤ 1 =
    (λ k. let a = r.placed k in let b = r.once k in omega (arith, a, b)) in
    let free : waiting j items ≡ 0 =
    (let a = r.placed j in
    let z = root_zero j (λ e. let p = may.positive in omega (arith, e, p)) in
    omega (arith, a, z, none_given)) in
    let high : (k : ℕ) → length v.parents + 1 ≤ k → waiting k items ≡ 0 =
    (λ k le. let a = r.placed k in let z = root_zero k (λ e. omega (arith, e, le)) in
    dite (dec_le 1 (all_given k views))
    (λ (g : 1 ≤ all_given k views). absurd (let i = r.inside k g in omega (arith, i, le)))
    (λ (no : ¬ (1 ≤ all_given k views)). omega (arith, a, z))) in
    let m = room (length v.parents + 1) j items (let p = may.within in omega (arith, p)) one free
    high in omega (arith, m)

-- where one pass stands for all, its lists are all lists
alone : (f : QueueView → ℕ) (items : List Job) (views : List QueueView) (seat : ℕ) (v : QueueView)
    → NothingLost v.parents v.passes items views → get_elem? views seat ≡ some v
    → v.stands_for ≡ v.passes
    → ((u : QueueView) → (u.taken ≡ []) × (u.given ≡ []) → f u ≡ 0) → sum_by f views ≡ f v
alone f items views seat v r at whole none_of = only f views seat v at
    (λ j u ne e. let two = two_of (λ x. x.stands_for) views seat j v u (λ i. ne (sym i)) at e in
    let w = r.whole in none_of u ((r.fits j u e).empty (omega (arith, two, w, whole))))

-- what a pass that stands for all takes and gives is all that was taken and given
whole_taken : (items : List Job) (views : List QueueView) (seat : ℕ) (v : QueueView)
    → NothingLost v.parents v.passes items views → get_elem? views seat ≡ some v
    → v.stands_for ≡ v.passes → (j : ℕ) → all_taken j views ≡ times j v.taken
whole_taken items views seat v r at whole j = alone (λ u. times j u.taken) items views seat v r at
    whole (λ u e. ap (times j) e.0)

whole_given : (items : List Job) (views : List QueueView) (seat : ℕ) (v : QueueView)
    → NothingLost v.parents v.passes items views → get_elem? views seat ≡ some v
    → v.stands_for ≡ v.passes → (j : ℕ) → all_given j views ≡ times j v.given
whole_given items views seat v r at whole j = alone (λ u. times j u.given) items views seat v r at
    whole (λ u e. ap (times j) e.1)

pub balances : (seat : ℕ) (v : QueueView) → v.is_new ≡ false → 0 < v.stands_for
    → Learns IsJobKept seat v (Accounts v)
balances seat v begun live items views h at whole = let r =
    runs items views seat v h at begun live in record {
      placed = λ j. let a = whole_taken items views seat v r at whole j in
          let b = whole_given items views seat v r at whole j in let c = r.placed j in
          omega (arith, a, b, c);
      once = λ j. let b = whole_given items views seat v r at whole j in let c = r.once j in
          omega (arith, b, c);
      inside = λ j e. r.inside j (let b = whole_given items views seat v r at whole j in
          omega (arith, b, e));
      under = (r.fits seat v at).under;
    }

pub takes : (seat : ℕ) (v : QueueView) → v.is_new ≡ false → 0 < v.stands_for
    → Pops IsJobKept seat v (IsTakeOf v)
takes seat v begun live x items views h at = (
  w,
  inr (v.parents, v.passes, run),
  record { taken = refl; within = low; new = unseen; each = each },
)
  where
    r : NothingLost v.parents v.passes (x ∷ items) views
    r = runs (x ∷ items) views seat v h at begun live

    w : QueueView
    w = with_taken v x.number

    here : hit x.number x.number ≡ 1
    here = hit_same x.number x.number refl

    taken : (j : ℕ) → all_taken j (set views seat w) ≡ all_taken j views + hit x.number j
    taken j = let a = sum_set (λ u. times j u.taken) views seat v w at in
        let b = times_append j v.taken (x.number ∷ []) in omega (arith, a, b)

    given : (j : ℕ) → all_given j (set views seat w) ≡ all_given j views
    given j = let a = sum_set (λ u. times j u.given) views seat v w at in omega (arith, a)

    run : NothingLost v.parents v.passes items (set views seat w)
    run = record {
      whole = (let a = sum_set (λ u. u.stands_for) views seat v w at in let b = r.whole in
          omega (arith, a, b));
      fits = fit_set v.parents v.passes views seat w
          (fit_of v.parents v.passes w begun (λ z. absurd (omega arith)) (λ _. (refl, refl))
          (λ j e. let k = (r.fits seat v at).under j e in
          let b = times_append (parent_in v.parents j) v.taken (x.number ∷ []) in
          omega (arith, k, b))) r.fits;
      placed = λ j. let a = taken j in let b = given j in let c = r.placed j in
          omega (arith, a, b, c);
      once = λ j. let b = given j in let c = r.once j in omega (arith, b, c);
      inside = λ j k. r.inside j (let b = given j in omega (arith, b, k));
    }

    low : x.number ≤ length v.parents
    low = dite (ℕ_discrete x.number 0) (λ (e : x.number ≡ 0). omega (arith, e))
        (λ (ne : x.number ≢ 0). r.inside x.number (let a = r.placed x.number in
        let z = root_zero x.number ne in omega (arith, a, z, here)))

    unseen : times x.number v.taken ≡ 0
    unseen = let a = r.placed x.number in let b = r.once x.number in
        let o = one_of (λ u. times x.number u.taken) views seat v at in omega (arith, a, b, o, here)

    each : v.stands_for ≡ v.passes → HoldsEachOnce w
    each whole = record {
      once = λ j. let a = whole_taken (x ∷ items) views seat v r at whole j in let c = r.placed j in
          let d = r.once j in let t = times_append j v.taken (x.number ∷ []) in
          omega (arith, a, c, d, t);
      given = λ j e. let a = whole_taken (x ∷ items) views seat v r at whole j in
          let b = whole_given (x ∷ items) views seat v r at whole j in let c = r.placed j in
          let t = times_append j v.taken (x.number ∷ []) in omega (arith, a, b, c, t, e);
    }
