-- What one take or offer more leaves as it was.
use Rattle.std.proofs.Common.{◌≡◌, ◌≢◌, ℕ, ◌<◌, ◌≤◌, Option, Some, None, List, [], ◌∷◌, ◌++◌, refl}
use Rattle.std.proofs.Common.{sym, ap, subst, arith, ◌∙◌}
use Rattle.walk_steps.proofs.ListLemmas.{times_append, hit_same, hit_other}
use mathlib.Core.Logic.{dite}
use native.Mathlib.Decide.{dec_le}
use Rattle.walk_steps.specs.declared.shape.Shape.{Shape}
use Rattle.walk_steps.specs.Lists.{times}
use Rattle.dir_queue.specs.declared.rule.QueueView.{QueueView}
use Rattle.dir_queue.specs.Passes.{parent_in, ParentsAreTaken}
use Rattle.dir_queue.specs.Answers.{TakesJob}

pub given_else : (given : List ℕ) (child other : ℕ) → other ≢ child
    → times other (given ++ child ∷ []) ≡ times other given
given_else given child other ne = let a = times_append other given (child ∷ []) in
    let z = hit_other child other (λ e. ne (sym e)) in omega (arith, a, z)

pub just_taken : (taken : List ℕ) (job : ℕ) → 0 < times job (taken ++ job ∷ [])
just_taken taken job = let a = times_append job taken (job ∷ []) in let o = hit_same job job refl in
    omega (arith, a, o)

pub still_taken : (shape : Shape) (v w : QueueView) (r : Option ℕ) (job : ℕ) → TakesJob shape v w r
    → 0 < times job v.taken → 0 < times job w.taken
still_taken shape v w None job t h = subst (λ (u : QueueView). 0 < times job u.taken) (sym t) h
still_taken shape v w (Some x) job t h = subst (λ (u : QueueView). 0 < times job u.taken) (sym t.0)
    (let a = times_append job v.taken (x ∷ []) in omega (arith, a, h))

pub same_given : (shape : Shape) (v w : QueueView) (r : Option ℕ) → TakesJob shape v w r
    → w.given ≡ v.given
same_given shape v w None t = ap (λ (u : QueueView). u.given) t
same_given shape v w (Some x) t = ap (λ (u : QueueView). u.given) t.0

-- no child of a job that was not taken was given
pub ungiven_child : (v : QueueView) (job child : ℕ) → ParentsAreTaken v → times job v.taken ≡ 0
    → parent_in v.parents child ≡ job → times child v.given ≡ 0
ungiven_child v job child under none is = dite (dec_le 1 (times child v.given))
    (λ (le : 1 ≤ times child v.given). absurd (let p = under child le in
    let z : times (parent_in v.parents child) v.taken ≡ 0 = ap (λ (j : ℕ). times j v.taken) is
    ∙ none in omega (arith, p, z)))
    (λ (no : ¬ (1 ≤ times child v.given)). omega arith)
