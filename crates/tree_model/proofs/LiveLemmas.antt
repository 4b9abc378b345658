-- Flags of entries.
use Rattle.std.proofs.Common.{◌≡◌, ◌∙◌, sym, refl, subst, ℕ, ◌+◌, ◌<◌, ◌≤◌, Bool, true, false, List}
use Rattle.std.proofs.Common.{length, set, replicate, get_or, arith, ◌⊎◌, inl, inr, get_or-set_same}
use Rattle.std.proofs.Common.{get_or-set_other, length-set}
use Rattle.std.proofs.lemmas.Bool.{cases_eq}
use Rattle.std.proofs.lemmas.List.{length-replicate}
use Rattle.tree_model.specs.LiveLists.{AreDead, IsBehindDead, IsDead, IsFilled}

pub filled_none : (from : ℕ) (flag : Bool) (old : List Bool) → IsFilled from from flag old old
filled_none from flag old = record {
  sized = refl;
  inside = λ e a b l. absurd (omega (arith, a, b));
  before = λ e a l. refl;
  behind = λ e a l. refl;
}

-- one flag more
filled_at : (old new : List Bool) (e to : ℕ) (flag : Bool) → length new ≡ length old
    → e < length old → (e ≡ to) ⊎ (e ≡ to → ⊥) → (e < to → get_or new e false ≡ flag) → e < to + 1
    → get_or (set new to flag) e false ≡ flag
filled_at old new e to flag s l (inl same) f m =
    subst (λ i. get_or (set new to flag) i false ≡ flag) (sym same)
    (get_or-set_same new to flag false (omega (arith, s, l, same)))
filled_at old new e to flag s l (inr other) f m = get_or-set_other new to e flag false other
    ∙ f (omega (arith, m, other))

pub filled_more : (from to : ℕ) (flag : Bool) (old new : List Bool) → from ≤ to
    → IsFilled from to flag old new → IsFilled from (to + 1) flag old (set new to flag)
filled_more from to flag old new up r = record {
  sized = length-set new to flag ∙ r.sized;
  inside = λ e a b l. filled_at old new e to flag r.sized l (cases_eq e to) (λ m. r.inside e a m l)
      b;
  before = λ e a l. (let other : e ≡ to → ⊥ = λ same. omega (arith, a, up, same) in
      get_or-set_other new to e flag false other ∙ r.before e a l);
  behind = λ e a l. (let other : e ≡ to → ⊥ = λ same. omega (arith, a, same) in
      get_or-set_other new to e flag false other ∙ r.behind e (omega (arith, a)) l);
}

-- places without a flag
pub dead_end : (live : List Bool) (place : ℕ) → IsBehindDead live place
    → IsDead live place (length live)
dead_end live place r = record {
  low = r.within;
  high = omega arith;
  lives = r.lives;
  dies = λ l. absurd (omega (arith, l));
}

pub dead_none : (live : List Bool) (place : ℕ) → IsBehindDead live place
    → AreDead live place (replicate place 0)
dead_none live place r =
    let count : length (replicate place 0) ≡ place = length-replicate place 0 in record {
      ends = subst (IsBehindDead live) (sym count) r;
      each = λ e a b. absurd (omega (arith, a, b, count));
    }

put_case : (live : List Bool) (dead : List ℕ) (place next e : ℕ) → place < length dead
    → IsDead live place next → AreDead live (place + 1) dead → place ≤ e → e < length dead
    → (e ≡ place) ⊎ (e ≡ place → ⊥)
    → IsDead live e (get_or (set dead place next) e 0)
put_case live dead place next e l h r a b (inl same) =
    subst (λ i. IsDead live i (get_or (set dead place next) i 0)) (sym same)
    (subst (λ v. IsDead live place v) (sym (get_or-set_same dead place next 0 l)) h)
put_case live dead place next e l h r a b (inr other) =
    subst (λ v. IsDead live e v) (sym (get_or-set_other dead place e next 0 other))
    (r.each e (omega (arith, a, other)) b)

pub dead_put : (live : List Bool) (dead : List ℕ) (place next : ℕ) → place < length dead
    → IsDead live place next → AreDead live (place + 1) dead
    → AreDead live place (set dead place next)
dead_put live dead place next l h r =
    let count : length (set dead place next) ≡ length dead = length-set dead place next in record {
      ends = subst (IsBehindDead live) (sym count) r.ends;
      each = λ e a b. put_case live dead place next e l h r a (omega (arith, b, count))
          (cases_eq e place);
    }

pub dead_here : (live : List Bool) (e : ℕ) → e < length live → get_or live e false ≡ false
    → IsDead live e e
dead_here live e l h =
    record {
      low = omega arith;
      high = omega (arith, l);
      lives = λ k a b. absurd
          (omega (arith, a, b));
      dies = λ m. h;
    }

pub dead_behind : (live : List Bool) (e next : ℕ) → get_or live e false ≡ true
    → IsDead live (e + 1) next → IsDead live e next
dead_behind live e next h r = record {
  low = omega (arith, r.low);
  high = r.high;
  lives = λ k a b. elim (cases_eq k e) [
    | inl same ↦ subst (λ i. get_or live i false ≡ true) (sym same) h
    | inr other ↦ r.lives k
        (omega (arith, a, other)) b
  ];
  dies = r.dies;
}
