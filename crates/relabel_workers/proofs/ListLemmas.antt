-- How often numbers stand in lists, and calls.
use Rattle.std.proofs.Common.{◌≡◌, ◌≢◌, ◌∙◌, sym, refl, ap, subst, ℕ, zero, suc, ◌+◌, ◌<◌, ◌≤◌}
use Rattle.std.proofs.Common.{◌==◌, ◌&&◌, ◌⊎◌, inl, inr, Bool, true, false, cond, true≢false}
use Rattle.std.proofs.Common.{eq-eqb, List, [], ◌∷◌, ◌++◌, length, filter, min, arith}
use Rattle.std.proofs.Common.{length-append}
use mathlib.Core.Logic.{dite}
use native.Mathlib.Decide.{ℕ_discrete}
use mir.Val.{bool_byte}
use Rattle.std.proofs.lemmas.Bool.{and_parts, cases_lt, eqb-true}
use Rattle.std.proofs.lemmas.List.{length-map, map-append}
use Rattle.std.proofs.lemmas.List.Elements.{filter-append}
use Rattle.walk_steps.specs.Lists.{hit, times}
use Rattle.walk_steps.specs.declared.machine.TheConstants.{NONE_WORD}
use Rattle.walk_steps.proofs.ListLemmas.{hit_other, hit_same, times_append}
use Rattle.inode_claims.specs.declared.rule.Call.{Call}
use Rattle.inode_claims.specs.Claiming.{IsClaimed, call_of, calls_where, is_call_at, least_claimed}
use Rattle.label_base.specs.Bounded.{all_numbers}
use Rattle.find_records.specs.Record.{Record}
use Rattle.tree_model.specs.Jobs.{entries_of_job, entry_home}
use Rattle.relabel_workers.specs.Worked.{AddsCall, positions_claimed}

pub hit_is : (a b : ℕ) → 0 < hit a b → a ≡ b
hit_is a b h =
    dite (ℕ_discrete a b) (λ (e : a ≡ b). e)
    (λ (ne : a ≢ b). absurd (let z = hit_other a b ne in omega (arith, z, h)))

-- ---- filters

filter_in : (n : ℕ) (p : ℕ → Bool) (xs : List ℕ) → p n ≡ true → times n (filter p xs) ≡ times n xs
filter_in n p [] h = refl
filter_in n p (x ∷ xs) h = by_case (p x) refl (filter_in n p xs h)
  where
    by_case : (b : Bool) → p x ≡ b → times n (filter p xs) ≡ times n xs
        → times n (cond b (x ∷ filter p xs) (filter p xs)) ≡ hit x n + times n xs
    by_case true e r = omega (arith, r)
    by_case false e r = let z = hit_other x n (λ s. true≢false (sym h ∙ ap p (sym s) ∙ e)) in
        omega (arith, r, z)

filter_out : (n : ℕ) (p : ℕ → Bool) (xs : List ℕ) → p n ≡ false → times n (filter p xs) ≡ 0
filter_out n p [] h = refl
filter_out n p (x ∷ xs) h = by_case (p x) refl (filter_out n p xs h)
  where
    by_case : (b : Bool) → p x ≡ b → times n (filter p xs) ≡ 0
        → times n (cond b (x ∷ filter p xs) (filter p xs)) ≡ 0
    by_case true e r = let z = hit_other x n (λ s. true≢false (sym e ∙ ap p s ∙ h)) in
        omega (arith, r, z)
    by_case false e r = r

numbers_out : (n e : ℕ) → n ≤ e → times e (all_numbers n) ≡ 0
numbers_out zero e l = refl
numbers_out (suc n) e l =
    let r = numbers_out n e (omega (arith, l)) in
    let a = times_append e (all_numbers n) (n ∷ []) in
    let z = hit_other n e (λ s. omega (arith, s, l)) in
    omega (arith, r, a, z)

numbers_in : (n e : ℕ) → e < n → times e (all_numbers n) ≡ 1
numbers_in zero e l = absurd (omega (arith, l))
numbers_in (suc n) e l =
    let a = times_append e (all_numbers n) (n ∷ []) in
    elim (cases_lt e n) [
      | inl lt ↦ (let r = numbers_in n e lt in let z = hit_other n e (λ s. omega (arith, s, lt)) in
          omega (arith, r, a, z))
      | inr ge ↦ (let r = numbers_out n e ge in let z = hit_same n e (omega (arith, l, ge)) in
          omega (arith, r, a, z))
    ]

abbrev is_held : List Record → ℕ → ℕ → Bool
is_held entries job e = entry_home entries e == job

-- what a job holds, each once
pub job_once : (entries : List Record) (job e : ℕ) → times e (entries_of_job entries job) ≤ 1
job_once entries job e = by_case (is_held entries job e) refl
  where
    within : times e (all_numbers (length entries)) ≤ 1
    within = elim (cases_lt e (length entries)) [
      | inl lt ↦ (let n = numbers_in (length entries) e lt in omega (arith, n))
      | inr ge ↦ (let n = numbers_out (length entries) e ge in omega (arith, n))
    ]

    by_case : (b : Bool) → is_held entries job e ≡ b → times e (entries_of_job entries job) ≤ 1
    by_case true h = let f = filter_in e (is_held entries job) (all_numbers (length entries)) h in
        let w = within in omega (arith, f, w)
    by_case false h = let f = filter_out e (is_held entries job) (all_numbers (length entries)) h in
        omega (arith, f)

pub job_holds : (entries : List Record) (job e : ℕ) → e < length entries → entry_home entries e
    ≡ job → 0 < times e (entries_of_job entries job)
job_holds entries job e l h =
    let f = filter_in e (is_held entries job) (all_numbers (length entries))
    (eq-eqb (entry_home entries e) job h) in
    let n = numbers_in (length entries) e l in
    omega (arith, f, n)

pub job_held : (entries : List Record) (job e : ℕ) → 0 < times e (entries_of_job entries job)
    → (e < length entries) × (entry_home entries e ≡ job)
job_held entries job e h = (within, by_case (is_held entries job e) refl)
  where
    by_case : (b : Bool) → is_held entries job e ≡ b → entry_home entries e ≡ job
    by_case true k = eqb-true (entry_home entries e) job k
    by_case false k =
        absurd (let f = filter_out e (is_held entries job) (all_numbers (length entries)) k in
        omega (arith, f, h))

    at_most : (b : Bool) → is_held entries job e ≡ b → 0 < times e (all_numbers (length entries))
    at_most true k = let f = filter_in e (is_held entries job) (all_numbers (length entries)) k in
        omega (arith, f, h)
    at_most false k =
        absurd (let f = filter_out e (is_held entries job) (all_numbers (length entries)) k in
        omega (arith, f, h))

    within : e < length entries
    within = elim (cases_lt e (length entries)) [
      | inl lt ↦ lt
      | inr ge ↦ absurd (let n = numbers_out (length entries) e ge in
          let m = at_most (is_held entries job e) refl in omega (arith, n, m))
    ]

-- an entry stands in a job once where that is its home, and else not
pub job_times : (entries : List Record) (job e : ℕ) → e < length entries
    → times e (entries_of_job entries job) ≡ hit job (entry_home entries e)
job_times entries job e l = by_case (is_held entries job e) refl
  where
    by_case : (b : Bool) → is_held entries job e ≡ b
        → times e (entries_of_job entries job) ≡ hit job (entry_home entries e)
    by_case true h =
        let f = filter_in e (is_held entries job) (all_numbers (length entries)) h in
        let n = numbers_in (length entries) e l in
        let z = hit_same job (entry_home entries e)
        (sym (eqb-true (entry_home entries e) job h)) in
        omega (arith, f, n, z)
    by_case false h =
        let f = filter_out e (is_held entries job) (all_numbers (length entries)) h in
        let z = hit_other job (entry_home entries e)
        (λ same. true≢false (sym (eq-eqb (entry_home entries e) job (sym same)) ∙ h)) in
        omega (arith, f, z)

-- ---- calls

abbrev pub count_if : Bool → ℕ
count_if b = cond b 1 0

pub count_append : (q : Call → Bool) (xs ys : List Call) → calls_where q (xs ++ ys) ≡ calls_where q
    xs + calls_where q ys
count_append q [] ys = omega arith
count_append q (x ∷ xs) ys = let r = count_append q xs ys in omega (arith, r)

pub at_call : (g p answer : ℕ) → count_if (is_call_at g p (call_of g p answer)) ≡ 1
at_call g p answer = ap (λ b. count_if (b && (p == p))) (eq-eqb g g refl)
    ∙ ap count_if (eq-eqb p p refl)

-- a call is at one group and one position
pub call_is : (g p h x answer : ℕ) → 0 < count_if (is_call_at h x (call_of g p answer)) → (g ≡ h)
    × (p ≡ x)
call_is g p h x answer k = by_case (is_call_at h x (call_of g p answer)) refl k
  where
    by_case : (b : Bool) → ((g == h) && (p == x)) ≡ b → 0 < count_if b → (g ≡ h) × (p ≡ x)
    by_case true e l = let q = and_parts (g == h) (p == x) e in (eqb-true g h q.0, eqb-true p x q.1)
    by_case false e l = absurd (omega (arith, l))

pub claimed_position : (g p : ℕ) (calls : List Call) → IsClaimed g p calls
    → 0 < times p (positions_claimed calls)
claimed_position g p [] h = absurd (omega (arith, h))
claimed_position g p (call ∷ calls) h =
    elim (cases_lt 0 (calls_where (is_call_at g p) calls)) [
      | inl lt ↦ (let r = claimed_position g p calls lt in omega (arith, r))
      | inr ge ↦ (let c = call_is call.group call.position g p call.answer (omega (arith, h, ge)) in
          let z = hit_same call.position p c.1 in omega (arith, z))
    ]

-- what a call more adds at the position of an entry that is claimed where it is that one
pub called_times : (b : Bool) (g p : ℕ) (old new : List Call) → AddsCall b g p old new → (x : ℕ)
    → (p ≡ x → b ≡ true) → times x (positions_claimed new) ≡ times x
    (positions_claimed old) + hit p x
called_times true g p old new a x h =
    let s = ap (λ calls. times x (positions_claimed calls)) a.1 in
    let m = ap (λ ps. times x ps)
    (map-append (λ (call : Call). call.position) old (call_of g p a.0 ∷ [])) in
    let t = times_append x (positions_claimed old) (p ∷ []) in
    omega (arith, s, m, t)
called_times false g p old new a x h =
    let s = ap (λ calls. times x (positions_claimed calls)) a in
    let z = hit_other p x (λ same. true≢false (sym (h same))) in
    omega (arith, s, z)

pub both_called : (x : ℕ) (calls more : List Call) → times x (positions_claimed (calls ++ more))
    ≡ times x (positions_claimed calls) + times x (positions_claimed more)
both_called x calls more =
    ap (λ ps. times x ps) (map-append (λ (call : Call). call.position) calls more)
    ∙ times_append x (positions_claimed calls) (positions_claimed more)

pub record HasCall (p : ℕ) (calls : List Call) : Type 0 where
  pub group : ℕ
  pub claimed : IsClaimed group p calls

pub position_claimed : (p : ℕ) (calls : List Call) → 0 < times p (positions_claimed calls)
    → HasCall p calls
position_claimed p [] h = absurd (omega (arith, h))
position_claimed p (call ∷ calls) h =
    elim (cases_lt 0 (times p (positions_claimed calls))) [
      | inl lt ↦ (let r = position_claimed p calls lt in
          record { group = r.group; claimed = (let c = r.claimed in omega (arith, c)) })
      | inr ge ↦
          (let same = hit_is call.position p (omega (arith, h, ge)) in
          let one = at_call call.group call.position call.answer in
          record {
            group = call.group;
            claimed = subst
                (λ x. 0 < calls_where (is_call_at call.group x) (call ∷ calls)) same
                (omega (arith, one));
          })
    ]

abbrev LeastMet : ℕ → List Call → ℕ → Type 0
LeastMet g calls x = (x ≡ NONE_WORD) ⊎ IsClaimed g x calls

-- the least claimed position is one that was claimed, if any was
pub least_met : (g : ℕ) (calls : List Call) → LeastMet g calls (least_claimed g calls)
least_met g [] = inl refl
least_met g (call ∷ calls) = by_case (call.group == g) refl (older (least_met g calls))
  where
    older : LeastMet g calls (least_claimed g calls)
        → LeastMet g (call ∷ calls) (least_claimed g calls)
    older m = elim m [ inl e ↦ inl e | inr c ↦ inr (omega (arith, c)) ]

    here : call.group ≡ g → IsClaimed g call.position (call ∷ calls)
    here s = subst (λ x. 0 < calls_where (is_call_at x call.position) (call ∷ calls)) s
        (let one = at_call call.group call.position call.answer in omega (arith, one))

    by_case : (b : Bool) → (call.group == g) ≡ b → LeastMet g (call ∷ calls) (least_claimed g calls)
        → LeastMet g (call ∷ calls)
        (cond b (min call.position (least_claimed g calls)) (least_claimed g calls))
    by_case true s m =
        elim (cases_lt call.position (least_claimed g calls)) [
          | inl lt ↦ (let same : call.position ≡ min call.position (least_claimed g calls) = omega
              (arith, lt) in
              inr (subst (λ x. IsClaimed g x (call ∷ calls)) same (here (eqb-true call.group g s))))
          | inr ge ↦ (let same : least_claimed g calls ≡ min call.position
              (least_claimed g calls) = omega (arith, ge) in
              subst (LeastMet g (call ∷ calls)) same m)
        ]
    by_case false s m = m

-- ---- as many calls as numbers that are to be called

sum_below : ℕ → (ℕ → ℕ) → ℕ
sum_below zero f = 0
sum_below (suc n) f = sum_below n f + f n

sum_add : (n : ℕ) (f g : ℕ → ℕ) → sum_below n (λ k. f k + g k) ≡ sum_below n f + sum_below n g
unfolding sum_below
sum_add zero f g = refl
sum_add (suc n) f g = let r = sum_add n f g in omega (arith, r)

sum_none : (n x : ℕ) → n ≤ x → sum_below n (λ k. hit x k) ≡ 0
unfolding sum_below
sum_none zero x l = refl
sum_none (suc n) x l = let r = sum_none n x (omega (arith, l)) in
    let z = hit_other x n (λ s. omega (arith, s, l)) in omega (arith, r, z)

sum_one : (n x : ℕ) → x < n → sum_below n (λ k. hit x k) ≡ 1
unfolding sum_below
sum_one zero x l = absurd (omega (arith, l))
sum_one (suc n) x l = elim (cases_lt x n) [
  | inl lt ↦ (let r = sum_one n x lt in let z = hit_other x n (λ s. omega (arith, s, lt)) in
      omega (arith, r, z))
  | inr ge ↦ (let r = sum_none n x ge in let z = hit_same x n (omega (arith, l, ge)) in
      omega (arith, r, z))
]

sum_zero : (n : ℕ) → sum_below n (λ k. 0) ≡ 0
unfolding sum_below
sum_zero zero = refl
sum_zero (suc n) = let r = sum_zero n in omega (arith, r)

all_times : (n : ℕ) (xs : List ℕ) → ((k : ℕ) → 0 < times k xs → k < n)
    → sum_below n (λ k. times k xs) ≡ length xs
all_times n [] known = sum_zero n
all_times n (x ∷ xs) known =
    let r = all_times n xs (λ k h. known k (omega (arith, h))) in
    let a = sum_add n (λ k. hit x k) (λ k. times k xs) in
    let o = sum_one n x (known x (let z = hit_same x x refl in omega (arith, z))) in
    omega (arith, r, a, o)

filter_more : (p : ℕ → Bool) (n : ℕ) (b : Bool) → p n ≡ b
    → length (filter p (all_numbers n ++ n ∷ [])) ≡ length (filter p (all_numbers n)) + count_if b
filter_more p n b e =
    ap length (filter-append p (all_numbers n) (n ∷ []))
    ∙ length-append (filter p (all_numbers n)) (filter p (n ∷ []))
    ∙ ap (λ k. length (filter p (all_numbers n)) + k) (ap (λ c. length (cond c (n ∷ []) [])) e
    ∙ one b)
  where
    one : (c : Bool) → length (cond c (n ∷ []) []) ≡ count_if c
    one true = refl
    one false = refl

passing_sum : (n : ℕ) (p : ℕ → Bool) (f : ℕ → ℕ) → ((k : ℕ) → k < n → f k ≡ count_if (p k))
    → length (filter p (all_numbers n)) ≡ sum_below n f
unfolding sum_below
passing_sum zero p f h = refl
passing_sum (suc n) p f h =
    let r = passing_sum n p f (λ k l. h k (omega (arith, l))) in
    let m = filter_more p n (p n) refl in
    let s = h n (omega arith) in
    omega (arith, r, m, s)

-- as many calls as numbers that pass, where each that does is called once, and no other is
pub called_exact : (n : ℕ) (p : ℕ → Bool) (calls : List Call)
    → ((k : ℕ) → k < n → times k (positions_claimed calls) ≡ count_if (p k))
    → ((k : ℕ) → 0 < times k (positions_claimed calls) → k < n)
    → length calls ≡ length (filter p (all_numbers n))
called_exact n p calls each known =
    let a = passing_sum n p (λ k. times k (positions_claimed calls)) each in
    let b = all_times n (positions_claimed calls) known in
    let c = length-map calls (λ call. call.position) in
    omega (arith, a, b, c)

-- at most as many numbers below a bound pass as there are
pub filtered_few : (p : ℕ → Bool) (n : ℕ) → length (filter p (all_numbers n)) ≤ n
filtered_few p zero = omega arith
filtered_few p (suc n) = by_case (p n) refl (filtered_few p n)
  where
    by_case : (b : Bool) → p n ≡ b → length (filter p (all_numbers n)) ≤ n
        → length (filter p (all_numbers n ++ n ∷ [])) ≤ suc n
    by_case true e r = let m = filter_more p n true e in omega (arith, r, m)
    by_case false e r = let m = filter_more p n false e in omega (arith, r, m)

pub passing_few : (p : ℕ → Bool) (xs : List ℕ) → length (filter p xs) ≤ length xs
passing_few p [] = omega arith
passing_few p (x ∷ xs) = by_case (p x) (passing_few p xs)
  where
    by_case : (b : Bool) → length (filter p xs) ≤ length xs
        → length (cond b (x ∷ filter p xs) (filter p xs)) ≤ suc (length xs)
    by_case true r = omega (arith, r)
    by_case false r = omega (arith, r)

pub held_few : (entries : List Record) (job : ℕ)
    → length (entries_of_job entries job) ≤ length entries
held_few entries job = filtered_few (is_held entries job) (length entries)

pub passes_on : (b : Bool) (x : ℕ) (xs : List ℕ) → length (cond b (x ∷ xs) xs)
    ≡ bool_byte b + length xs
passes_on true x xs = omega arith
passes_on false x xs = omega arith
