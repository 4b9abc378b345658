-- What a pass that stands for all passes knows.
use Rattle.std.proofs.Common.{◌≡◌, ◌≢◌, ℕ, zero, suc, ◌+◌, ◌<◌, ◌≤◌, List, [], ◌∷◌, length, refl}
use Rattle.std.proofs.Common.{ap, subst, arith}
use Rattle.walk_steps.proofs.ListLemmas.{times_append, hit_same}
use mathlib.Core.Logic.{dite}
use native.Mathlib.Decide.{ℕ_discrete}
use Rattle.crossbeam_queue.specs.Fifo.{Held}
use Rattle.walk_steps.specs.declared.shape.Shape.{Shape}
use Rattle.walk_steps.specs.Shaped.{parent_job}
use Rattle.walk_steps.specs.Lists.{times, list_of}
use Rattle.walk_steps.specs.Sound.{Sound}
use Rattle.dir_queue.specs.declared.rule.Job.{Job}
use Rattle.dir_queue.specs.declared.rule.QueueView.{QueueView}
use Rattle.dir_queue.specs.Passes.{parent_in, HoldsEachOnce, AllIsTaken}
use Rattle.dir_queue.specs.Rule.{IsTakeOf, Accounted, Accounts}
use Rattle.dir_queue.specs.Answers.{one_worker}
use Rattle.dir_queue.proofs.Keeps.{root_one}

pub accounted_each : (v : QueueView) (items : List Job) → Accounted v items → HoldsEachOnce v
accounted_each v items a = record {
  once = λ j. let p = a.placed j in let o = a.once j in omega (arith, p, o);
  given = λ j t. let p = a.placed j in omega (arith, p, t);
}

pub held_empty : (v : QueueView) → Held 0 (Accounts v) → v.stands_for ≡ v.passes → Accounted v []
held_empty v h whole = of_no_items h.0 h.1 (h.2 whole)
  where
    of_no_items : (items : List Job) → length items ≡ 0 → Accounted v items → Accounted v []
    of_no_items [] e a = a
    of_no_items (x ∷ xs) e a = absurd (omega arith)

pub empty_is_all : (v : QueueView) → Accounted v [] → AllIsTaken v
empty_is_all v a j h = let p = a.placed j in omega (arith, p, h)

pub take_is_not_all : (v : QueueView) (x : Job) (w : QueueView) → IsTakeOf v x w
    → v.stands_for ≡ v.passes → ¬ AllIsTaken v
take_is_not_all v x w t whole all = let mine : 0 < times x.number w.taken =
    (let e = ap (λ (u : QueueView). times x.number u.taken) t.taken in
    let s = times_append x.number v.taken (x.number ∷ []) in
    let h = hit_same x.number x.number refl in omega (arith, e, s, h)) in
    let given = (t.each whole).given x.number mine in let same =
    ap (λ (u : QueueView). times x.number u.given) t.taken in
    let taken = all x.number (omega (arith, given, same)) in let none = t.new in
    omega (arith, taken, none)

pub empty_is_sound : (shape : Shape) (v : QueueView) → v.parents ≡ shape.parents → Accounted v []
    → Sound shape (one_worker v)
empty_is_sound shape v is a = record {
  workers = refl;
  placed = λ j. let p = a.placed j in omega (arith, p);
  once = λ j. let p = a.placed j in let o = a.once j in omega (arith, p, o);
  inside = λ j h.
      (positive j h, subst (λ (ps : List ℕ). j ≤ length ps) is (a.inside j (omega (arith, h))));
  parents = under;
}
  where
    positive : (j : ℕ) → 0 < times j v.given + 0 → 0 < j
    positive j h =
        dite (ℕ_discrete j 0)
        (λ (z : j ≡ 0). absurd (let o = a.once j in let r = root_one j z in omega (arith, o, r, h)))
        (λ (ne : j ≢ 0). omega arith)

    under : (w j : ℕ) → 0 < times j (list_of (v.given ∷ []) w)
        → 0 < times (parent_job shape j) (list_of (v.taken ∷ []) w)
    under zero j h = subst (λ (ps : List ℕ). 0 < times (parent_in ps j) v.taken) is (a.under j h)
    under (suc w) j h = absurd (omega arith)
