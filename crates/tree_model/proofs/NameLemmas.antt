-- The entries of a group, one after the other.
use Rattle.std.proofs.Common.{◌≡◌, ◌∙◌, ap, sym, refl, subst, ℕ, zero, suc, ◌+◌, ◌-◌, ◌<◌, ◌≤◌}
use Rattle.std.proofs.Common.{◌==◌, Bool, true, false, cond, replicate, List, [], ◌∷◌, ◌++◌, length}
use Rattle.std.proofs.Common.{set, get_or, arith, ◌⊎◌, inl, inr, eq-eqb, ne_eqb, add-one, drop-cons}
use Rattle.std.proofs.Common.{append_assoc, append-nil, get_or-set_same, get_or-set_other}
use Rattle.std.proofs.Common.{length-set}
use Rattle.std.proofs.lemmas.List.{length-replicate, drop_all}
use Rattle.std.proofs.lemmas.Bool.{cases_lt, cases_eq, eqb-true}
use Rattle.tree_model.specs.GroupLists.{next_from, group_names, next_at, names_at, AreGroupHeads}
use Rattle.tree_model.specs.GroupLists.{AreNext}

-- one entry passed
pub next_step : (groups : List ℕ) (e g : ℕ) → e < length groups
    → next_at groups e g ≡ cond (get_or groups e 0 == g) e (next_at groups (e + 1) g)
unfolding next_at
next_step groups e g l = rw (add-one, drop-cons groups e 0) refl

pub names_step : (groups : List ℕ) (e g : ℕ) → e < length groups
    → names_at groups e g ≡ cond (get_or groups e 0 == g) (e ∷ names_at groups (e + 1) g)
    (names_at groups (e + 1) g)
unfolding names_at
names_step groups e g l = rw (add-one, drop-cons groups e 0) refl

pub next_past : (groups : List ℕ) (k g : ℕ) → length groups ≤ k → next_at groups k g ≡ k
unfolding next_at
next_past groups k g h = ap (λ xs. next_from k xs g) (drop_all k groups h)

pub names_past : (groups : List ℕ) (k g : ℕ) → length groups ≤ k → names_at groups k g ≡ []
unfolding names_at
names_past groups k g h = ap (λ xs. group_names k xs g) (drop_all k groups h)

-- what the next entry of the group is
pub record IsNext (groups : List ℕ) (k g n : ℕ) : Type 0 where
  pub is : next_at groups k g ≡ n
  pub low : k ≤ n
  pub high : n ≤ length groups
  pub found : n < length groups → get_or groups n 0 ≡ g
  pub before : (j : ℕ) → k ≤ j → j < n → (get_or groups j 0 == g) ≡ false
  pub names : names_at groups k g ≡ names_at groups n g

next_case : (groups : List ℕ) (k g n : ℕ) (b : Bool) → k < length groups → (get_or groups k 0 == g)
    ≡ b → IsNext groups (k + 1) g n
    → IsNext groups k g (cond b k n)
next_case groups k g n true l e r = record {
  is = next_step groups k g l ∙ ap (λ b. cond b k (next_at groups (k + 1) g)) e;
  low = omega arith;
  high = omega (arith, l);
  found = λ _. eqb-true (get_or groups k 0) g e;
  before = λ j a b. absurd (omega (arith, a, b));
  names = refl;
}
next_case groups k g n false l e r = record {
  is = next_step groups k g l ∙ ap (λ b. cond b k (next_at groups (k + 1) g)) e ∙ r.is;
  low = omega (arith, r.low);
  high = r.high;
  found = r.found;
  before = λ j a b. elim (cases_lt k j) [
    | inl lt ↦ r.before j (omega (arith, lt)) b
    | inr ge ↦ (let same : k ≡ j = omega (arith, a, ge) in
        subst (λ i. (get_or groups i 0 == g) ≡ false) same e)
  ];
  names = names_step groups k g l
      ∙ ap (λ b. cond b (k ∷ names_at groups (k + 1) g) (names_at groups (k + 1) g)) e ∙ r.names;
}

next_down : (m : ℕ) (groups : List ℕ) (k g : ℕ) → k + m ≡ length groups → (n : ℕ)
    × IsNext groups k g n
next_down zero groups k g e = (
  k,
  record {
    is = next_past groups k g (omega (arith, e));
    low = omega arith;
    high = omega (arith, e);
    found = λ l. absurd (omega (arith, e, l));
    before = λ j a b. absurd (omega (arith, a, b));
    names = refl;
  },
)
next_down (suc m) groups k g e =
    let r = next_down m groups (k + 1) g (omega (arith, e)) in (
      cond (get_or groups k 0 == g) k r.0,
      next_case groups k g r.0 (get_or groups k 0 == g)
          (omega (arith, e)) refl r.1,
    )

pub next_is : (groups : List ℕ) (k g : ℕ) → k ≤ length groups
    → IsNext groups k g (next_at groups k g)
next_is groups k g l =
    let r = next_down (length groups - k) groups k g (omega (arith, l)) in
    subst (λ n. IsNext groups k g n) (sym r.1.is) r.1

-- an entry put before the others
head_here : (groups first : List ℕ) (e group : ℕ) → e < length groups → group ≡ get_or groups e 0
    → (g : ℕ) → g < length (set first group e) → g ≡ group
    → get_or (set first group e) g 0 ≡ next_at groups e g
head_here groups first e group l h g low same =
    let b : (get_or groups e 0 == g) ≡ true = eq-eqb (get_or groups e 0) g (sym h ∙ sym same) in
    let w : group < length first = omega (arith, length-set first group e, low, same) in
    subst (λ i. get_or (set first group e) i 0 ≡ e) (sym same) (get_or-set_same first group e 0 w)
    ∙ sym (next_step groups e g l ∙ ap (λ t. cond t e (next_at groups (e + 1) g)) b)

head_else : (groups first : List ℕ) (e group : ℕ) → e < length groups → group ≡ get_or groups e 0
    → AreGroupHeads groups (e + 1) first
    → (g : ℕ) → g < length (set first group e) → (g ≡ group → ⊥) → get_or (set first group e) g 0
    ≡ next_at groups e g
head_else groups first e group l h r g low other =
    let b : (get_or groups e 0 == g) ≡ false =
    ne_eqb (get_or groups e 0) g (λ same. other (sym same ∙ sym h)) in
    get_or-set_other first group g e 0 other
    ∙ r.first g (omega (arith, length-set first group e, low))
    ∙ sym (next_step groups e g l ∙ ap (λ t. cond t e (next_at groups (e + 1) g)) b)

pub head_put : (groups first : List ℕ) (e group : ℕ) → e < length groups → group ≡ get_or groups e 0
    → AreGroupHeads groups (e + 1) first → AreGroupHeads groups e (set first group e)
head_put groups first e group l h r = record {
  first = λ g low. elim (cases_eq g group) [
    | inl same ↦ head_here groups first e group l h g low same
    | inr other ↦ head_else groups first e group l h r g low other
  ];
}

next_case_put : (groups next : List ℕ) (e next_one : ℕ) → e < length groups
    → next_one ≡ next_at groups (e + 1) (get_or groups e 0) → AreNext groups (e + 1) next
    → (k : ℕ) → e ≤ k → k < length groups → (k ≡ e) ⊎ (k ≡ e → ⊥) → get_or (set next e next_one) k 0
    ≡ next_at groups (k + 1) (get_or groups k 0)
next_case_put groups next e next_one l h r k low high (inl same) =
    subst (λ i. get_or (set next e next_one) i 0 ≡ next_at groups (i + 1) (get_or groups i 0))
    (sym same)
    (get_or-set_same next e next_one 0 (omega (arith, l, r.sized)) ∙ h)
next_case_put groups next e next_one l h r k low high (inr other) =
    get_or-set_other next e k next_one 0 other ∙ r.behind k (omega (arith, low, other)) high

pub next_put : (groups next : List ℕ) (e next_one : ℕ) → e < length groups
    → next_one ≡ next_at groups (e + 1) (get_or groups e 0) → AreNext groups (e + 1) next
    → AreNext groups e (set next e next_one)
next_put groups next e next_one l h r = record {
  sized = length-set next e next_one ∙ r.sized;
  behind = λ k low high. next_case_put groups next e next_one l h r k low high (cases_eq k e);
}

-- no entry is behind the last
replicate_at : (n v k : ℕ) → k < n → get_or (replicate n v) k 0 ≡ v
replicate_at zero v k l = absurd (omega (arith, l))
replicate_at (suc n) v zero l = refl
replicate_at (suc n) v (suc k) l = replicate_at n v k (omega (arith, l))

pub heads_none : (groups : List ℕ) (count : ℕ) → AreGroupHeads groups (length groups)
    (replicate count (length groups))
heads_none groups count = record {
  first = λ g l. replicate_at count (length groups) g
      (omega (arith, length-replicate count (length groups), l))
      ∙ sym (next_past groups (length groups) g (omega arith));
}

pub next_none : (groups : List ℕ)
    → AreNext groups (length groups) (replicate (length groups) (length groups))
next_none groups = record {
  sized = length-replicate (length groups) (length groups);
  behind = λ e low high. absurd (omega (arith, low, high));
}

module _ (groups next : List ℕ) (e group : ℕ) (all_next : AreNext groups 0 next)
    (within : e < length next) (own : e < length groups → get_or groups e 0 ≡ group) where
  inside : e < length groups
  inside = omega (arith, within, all_next.sized)

  next_one : get_or next e 0 ≡ next_at groups (e + 1) group
  next_one = all_next.behind e (omega arith) inside ∙ ap (next_at groups (e + 1)) (own inside)

  the_next : IsNext groups (e + 1) group (get_or next e 0)
  the_next = subst (λ n. IsNext groups (e + 1) group n) (sym next_one)
      (next_is groups (e + 1) group (omega (arith, inside)))

  -- an entry and those behind it
  names_here : names_at groups e group ≡ e ∷ names_at groups (get_or next e 0) group
  names_here =
      names_step groups e group inside
      ∙ ap (λ b. cond b (e ∷ names_at groups (e + 1) group) (names_at groups (e + 1) group))
      (eq-eqb (get_or groups e 0) group (own inside))
      ∙ ap (λ xs. e ∷ xs) the_next.names

  pub names_pushed : (names new all : List ℕ) → new ≡ names ++ e ∷ []
      → names ++ names_at groups e group ≡ all → new ++ names_at groups (get_or next e 0) group
      ≡ all
  names_pushed names new all n h =
      rw (n, append_assoc) (ap (λ xs. names ++ xs) (sym names_here) ∙ h)

  pub own_next : get_or next e 0 < length groups → get_or groups (get_or next e 0) 0 ≡ group
  own_next = the_next.found

pub names_over : (groups names all : List ℕ) (e group : ℕ) → length groups ≤ e
    → names ++ names_at groups e group ≡ all → names ≡ all
names_over groups names all e group l h = sym (append-nil names)
    ∙ ap (λ xs. names ++ xs) (sym (names_past groups e group l)) ∙ h
