-- The tree of the tests: a root with two directories, and an entry in each.
use Rattle.std.proofs.Common.{◌≡◌, ℕ, zero, suc, ◌-◌, ◌≤◌, List, [], ◌∷◌, get_or, refl, arith}
use Rattle.walk_steps.specs.Shaped.{IsValid}

abbrev two : ℕ → ℕ → List ℕ
two a b = a ∷ b ∷ []

zeros : (i : ℕ) → get_or (two 0 0) i 0 ≡ 0
zeros zero = refl
zeros (suc zero) = refl
zeros (suc (suc i)) = refl

at_most_two : (i : ℕ) → get_or (two 1 2) i 0 ≤ 2
at_most_two zero = omega arith
at_most_two (suc zero) = omega arith
at_most_two (suc (suc i)) = omega arith

pub small_is_valid : IsValid
    record { parents = 0 ∷ 0 ∷ []; homes = 1 ∷ 2 ∷ []; group_of = 0 ∷ 0 ∷ []; groups = 1 }
small_is_valid = record {
  paired = refl;
  parents = λ job positive within. let z = zeros (job - 1) in omega (arith, z, positive);
  homes = λ entry within. at_most_two entry;
  groups = λ entry within. let z = zeros entry in omega (arith, z);
}
