-- A sound state in which nothing is left to do is the one end.
use Rattle.std.proofs.Common.{◌≡◌, ◌≢◌, ℕ, zero, suc, ◌<◌, ◌≤◌, Bool, true, List, get_or, refl, sym}
use Rattle.std.proofs.Common.{ap, subst, ◌∙◌, inl, inr, ⊎_elim, arith}
use mathlib.Core.Logic.{dite}
use native.Mathlib.Decide.{ℕ_discrete}
use Rattle.walk_steps.specs.declared.machine.TheConstants.{NONE_WORD}
use Rattle.walk_steps.specs.declared.machine.WalkState.{WalkState}
use Rattle.walk_steps.specs.declared.shape.Shape.{Shape}
use Rattle.walk_steps.specs.Shaped.{last_job, entry_count, parent_job, home_of, group_of_entry}
use Rattle.walk_steps.specs.Shaped.{IsValid}
use Rattle.walk_steps.specs.Lists.{times}
use Rattle.walk_steps.specs.Sound.{Sound, IsLeast, WordsAreLeast}
use Rattle.walk_steps.specs.Ends.{IsJobTaken, IsGiven, LeadsToJob, HasEnded, IsTheEnd}
use Rattle.walk_steps.proofs.ListLemmas.{hit_same, hit_other}

-- one fact for another that holds of the same numbers
same_least : (P Q : ℕ → Type 0) (word : ℕ) → ((n : ℕ) → P n → Q n) → ((n : ℕ) → Q n → P n)
    → IsLeast P word → IsLeast Q word
same_least P Q word there back l =
    record {
      low = λ n q. l.low n (back n q);
      met = ⊎_elim (λ e. inl e) (λ p. inr (there word p))
          l.met;
    }

module _ (shape : Shape) (open_job wanted : ℕ → Bool) (claimed : List ℕ) (state : WalkState)
    (valid : IsValid shape) (leads : LeadsToJob shape open_job wanted) (sound : Sound shape state)
    (least : WordsAreLeast shape claimed state.words)
    (ended : HasEnded shape open_job wanted claimed state) where
  nothing_waits : (job : ℕ) → times job state.queue ≡ 0
  nothing_waits job = ap (times job) ended.drained

  taken_is_given : (job : ℕ) → 0 < job → IsJobTaken state job → IsGiven state job
  taken_is_given job positive t = let p = sound.placed job in
      let z = hit_other 0 job (λ e. omega (arith, e, positive)) in let q = nothing_waits job in
      omega (arith, p, z, q, t)

  given_is_taken : (job : ℕ) → IsGiven state job → IsJobTaken state job
  given_is_taken job g = let p = sound.placed job in let q = nothing_waits job in
      omega (arith, p, q, g)

  root_is_taken : IsJobTaken state 0
  root_is_taken = let p = sound.placed 0 in let h = hit_same 0 0 refl in let q = nothing_waits 0 in
      omega (arith, p, h, q)

  taken_is_open : (job : ℕ) → IsJobTaken state job → (job ≤ last_job shape) × (open_job job ≡ true)
  taken_is_open job t = dite (ℕ_discrete 0 job)
      (λ (e : 0 ≡ job). subst (λ (j : ℕ). (j ≤ last_job shape) × (open_job j ≡ true)) e
      (omega arith, leads.root))
      (λ (ne : 0 ≢ job). let g = taken_is_given job (omega arith) t in
      ((sound.inside job g).1, ended.only_open job g))

  -- by the number of a job, since its parent's is less
  open_is_taken : (most job : ℕ) → job ≤ most → job ≤ last_job shape → open_job job ≡ true
      → IsJobTaken state job
  open_is_taken zero job le within o = subst (IsJobTaken state) (zero_is job le) root_is_taken
    where
      zero_is : (j : ℕ) → j ≤ 0 → 0 ≡ j
      zero_is j l = omega arith
  open_is_taken (suc most) job le within o = dite (ℕ_discrete 0 job)
      (λ (e : 0 ≡ job). subst (IsJobTaken state) e root_is_taken)
      (λ (ne : 0 ≢ job). let positive : 0 < job = omega arith in
      let below = valid.parents job positive within in
      given_is_taken job
      (ended.children job positive within o
      (open_is_taken most (parent_job shape job) (omega (arith, below, le))
      (omega (arith, below, within)) (leads.parents job positive within o))))

  wanted_is_claimed : (entry : ℕ) → entry < entry_count shape → wanted entry ≡ true
      → 0 < times entry claimed
  wanted_is_claimed entry within w = let home = valid.homes entry within in
      ended.entries entry within w
      (open_is_taken (home_of shape entry) (home_of shape entry) (omega arith) home
      (leads.homes entry within w))

  pub ended_is_the_end : IsTheEnd shape open_job wanted state
  ended_is_the_end = record {
    taken = λ job. (taken_is_open job, λ p. open_is_taken job job (omega arith) p.0 p.1);
    words = λ group lt. same_least (λ e. (0 < times e claimed) × (group_of_entry shape e ≡ group))
        (λ e. (e < entry_count shape) × (wanted e ≡ true) × (group_of_entry shape e ≡ group))
        (get_or state.words group 0)
        (λ e f. let w = ended.only_wanted e f.0 in (w.0, w.1, f.1))
        (λ e f. (wanted_is_claimed e f.0 f.1, f.2)) (least.least group lt);
  }

-- there is one least number
least_once : (P : ℕ → Type 0) (a b : ℕ) → ((n : ℕ) → P n → n < NONE_WORD) → IsLeast P a
    → IsLeast P b → a ≡ b
least_once P a b fits l m = ⊎_elim
    (λ (e : a ≡ NONE_WORD). ⊎_elim (λ (f : b ≡ NONE_WORD). e ∙ sym f)
    (λ p. absurd (let x = l.low b p in let y = fits b p in omega (arith, e, x, y))) m.met)
    (λ p. let x = m.low a p in
    ⊎_elim (λ (f : b ≡ NONE_WORD). absurd (let y = fits a p in omega (arith, f, x, y)))
    (λ q. let y = l.low b q in omega (arith, x, y)) m.met) l.met

pub one_end : (shape : Shape) (open_job wanted : ℕ → Bool) (a b : WalkState)
    → entry_count shape ≤ NONE_WORD → IsTheEnd shape open_job wanted a
    → IsTheEnd shape open_job wanted b
    → (group : ℕ) → group < shape.groups → get_or a.words group 0 ≡ get_or b.words group 0
one_end shape open_job wanted a b few e f group lt =
    least_once (λ n. (n < entry_count shape) × (wanted n ≡ true) × (group_of_entry shape n ≡ group))
    (get_or a.words group 0) (get_or b.words group 0)
    (λ n p. let k = p.0 in omega (arith, k, few)) (e.words group lt) (f.words group lt)
