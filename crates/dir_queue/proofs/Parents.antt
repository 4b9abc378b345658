-- A pass took the parent of each job that it gave.
use Rattle.std.proofs.Common.{◌≡◌, ◌≢◌, ℕ, ◌<◌, ◌≤◌, List, [], ◌∷◌, sym, subst, arith, Result, Ok}
use Rattle.std.proofs.Common.{Err, Option, Some, None, MatchResult, MatchOption}
use Rattle.walk_steps.proofs.ListLemmas.{times_append, hit_other}
use Rattle.crossbeam_queue.specs.Fifo.{Held}
use Rattle.dir_queue.specs.declared.rule.Job.{Job}
use Rattle.dir_queue.specs.Rule.{IsOfferOf, HasQueueRoom, IsTakeOf, Accounts}
use mathlib.Core.Logic.{dite}
use native.Mathlib.Decide.{dec_le, ℕ_discrete}
use Rattle.walk_steps.specs.Lists.{times}
use Rattle.dir_queue.specs.declared.rule.QueueView.{QueueView}
use Rattle.dir_queue.specs.Passes.{with_job_given, with_taken, queues_joined, parent_in, MayOffer}
use Rattle.dir_queue.specs.Passes.{ParentsAreTaken}

pub given_under : (v : QueueView) (job : ℕ) → MayOffer v job → ParentsAreTaken v
    → ParentsAreTaken (with_job_given v job)
given_under v job may under j h = dite (ℕ_discrete job j)
    (λ (e : job ≡ j). subst (λ (k : ℕ). 0 < times (parent_in v.parents k) v.taken) e may.parent)
    (λ (ne : job ≢ j). under j (let a = times_append j v.given (job ∷ []) in
    let z = hit_other job j ne in omega (arith, a, z, h)))

pub taken_under : (v : QueueView) (job : ℕ) → ParentsAreTaken v → ParentsAreTaken (with_taken v job)
taken_under v job under j h = let p = under j h in
    let a = times_append (parent_in v.parents j) v.taken (job ∷ []) in omega (arith, p, a)

pub joined_under : (v u : QueueView) → u.parents ≡ v.parents → ParentsAreTaken v → ParentsAreTaken u
    → ParentsAreTaken (queues_joined v u)
joined_under v u same mine other j h = let a = times_append j v.given u.given in
    let b = times_append (parent_in v.parents j) v.taken u.taken in
    dite (dec_le 1 (times j v.given))
    (λ (le : 1 ≤ times j v.given). let p = mine j le in omega (arith, b, p))
    (λ (no : ¬ (1 ≤ times j v.given)). let p = subst
    (λ (ps : List ℕ). 0 < times (parent_in ps j) u.taken) same
    (other j (omega (arith, a, h))) in omega (arith, b, p))

-- whatever a push answered
pub pushed_under : {T : Type 0} (r : Result T Job) (n : ℕ) (v w : QueueView) (x : Job)
    → MatchResult r (λ _. IsOfferOf v x w) (λ y. (y ≡ x) × (w ≡ v) × Held n (HasQueueRoom v))
    → MayOffer v x.number → ParentsAreTaken v → ParentsAreTaken w
pushed_under (Ok t) n v w x is may under =
    subst ParentsAreTaken (sym is) (given_under v x.number may under)
pushed_under (Err y) n v w x is may under = subst ParentsAreTaken (sym is.1) under

-- whatever a pop answered
pub popped_under : (r : Option Job) (v w : QueueView)
    → MatchOption r ((w ≡ v) × Held 0 (Accounts v)) (λ x. IsTakeOf v x w) → ParentsAreTaken v
    → ParentsAreTaken w
popped_under (Some x) v w is under =
    subst ParentsAreTaken (sym is.taken) (taken_under v x.number under)
popped_under None v w is under = subst ParentsAreTaken (sym is.0) under
