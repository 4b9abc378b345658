-- Whether every byte that texts have passes, as a test of each in turn.
use Rattle.std.proofs.Common.{◌≡◌, refl, ◌∙◌, subst, ℕ, zero, suc, ◌+◌, ◌<◌, ◌≤◌, ◌⊎◌, inl, inr}
use Rattle.std.proofs.Common.{Bool, true, Decides, arith}
use Rattle.std.specs.Prelude.{◌==◌}
use Rattle.std.specs.Cmp.{first_so, second_so}
use Rattle.std.specs.List.{list_all, list_any, range_with_len}
use Rattle.std.proofs.lemmas.Bool.{and_from}
use Rattle.pattern_match.specs.Class.{HasEachByte, class_bytes, takes}
use Rattle.pattern_match.specs.Passes.{has_each_byte}
use Rattle.pattern_match.specs.declared.class.Class.{Class}
use Rattle.pattern_match.proofs.Classes.{class_takes}
use Rattle.pattern_match.proofs.Holding.{at_or_after}

-- where each of a run of numbers passes, so does one of them
passes_in : (p : ℕ → Bool) (lo n b : ℕ) → list_all p (range_with_len lo n) ≡ true → lo ≤ b
    → b < lo + n → p b ≡ true
passes_in p lo zero b all l m = absurd (omega (arith, l, m))
passes_in p lo (suc n) b all l m =
    at (at_or_after lo b l) (passes_in p (lo + 1) n b (second_so (p lo) _ all))
  where
    at : (lo ≡ b) ⊎ (lo + 1 ≤ b) → (lo + 1 ≤ b → b < (lo + 1) + n → p b ≡ true) → p b ≡ true
    at (inl e) ih = subst (λ k. p k ≡ true) e (first_so (p lo) _ all)
    at (inr k) ih = ih k (omega (arith, m))

all_pass : (p : ℕ → Bool) (lo n : ℕ) → ((b : ℕ) → lo ≤ b → b < lo + n → p b ≡ true)
    → list_all p (range_with_len lo n) ≡ true
all_pass p lo zero each = refl
all_pass p lo (suc n) each = and_from (p lo) _ (each lo (omega arith) (omega arith))
    (all_pass p (lo + 1) n (λ b l m. each b (omega (arith, l)) (omega (arith, m))))

pub each_byte : (test : ℕ → Bool) → Decides (has_each_byte test) (HasEachByte test)
unfolding has_each_byte
each_byte test = (
  λ all b l m. passes_in test 1 255 b all (omega (arith, l)) (omega (arith, m)),
  λ each. all_pass test 1 255 (λ b l m. each b (omega (arith, l)) (omega (arith, m))),
)

-- a class and the list of its bytes agree on whether they have every byte
pub class_each : (class : Class) → HasEachByte (takes class)
    → HasEachByte (λ b. list_any (λ c. c == b) (class_bytes class))
class_each class each b l m = subst (λ v. v ≡ true) (class_takes class b m) (each b l m)

pub bytes_each : (class : Class) → HasEachByte (λ b. list_any (λ c. c == b) (class_bytes class))
    → HasEachByte (takes class)
bytes_each class each b l m = class_takes class b m ∙ each b l m
