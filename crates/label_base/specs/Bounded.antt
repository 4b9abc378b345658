-- Tests of the numbers below a bound.
use Rattle.std.specs.Prelude.{ℕ, zero, suc, Bool, true, false, ◌&&◌, ◌||◌, nat_lt, Option, Some}
use Rattle.std.specs.Prelude.{None, List, [], ◌∷◌, ◌++◌, if◌then◌else◌}

-- every number below n passes
abbrev pub all_below : ℕ → (ℕ → Bool) → Bool
all_below zero p = true
all_below (suc n) p = all_below n p && p n

-- some number below n passes
abbrev pub any_below : ℕ → (ℕ → Bool) → Bool
any_below zero p = false
any_below (suc n) p = any_below n p || p n

-- the number that was found; otherwise n, where that passes
abbrev pub found_or : Option ℕ → ℕ → Bool → Option ℕ
found_or (Some k) n passes = Some k
found_or None n true = Some n
found_or None n false = None

-- the least number below n that passes
abbrev pub least_below : ℕ → (ℕ → Bool) → Option ℕ
least_below zero p = None
least_below (suc n) p = found_or (least_below n p) n (p n)

-- the number n, where it passes; otherwise what was found
abbrev pub last_or_found : Option ℕ → ℕ → Bool → Option ℕ
last_or_found found n true = Some n
last_or_found found n false = found

-- the greatest number below n that passes
abbrev pub greatest_below : ℕ → (ℕ → Bool) → Option ℕ
greatest_below zero p = None
greatest_below (suc n) p = last_or_found (greatest_below n p) n (p n)

-- the greater of two numbers, where there are two
abbrev pub greater : Option ℕ → Option ℕ → Option ℕ
greater None b = b
greater (Some a) None = Some a
greater (Some a) (Some b) = if nat_lt a b then Some b else Some a

-- the numbers below n, in ascending order
abbrev pub all_numbers : ℕ → List ℕ
all_numbers zero = []
all_numbers (suc n) = all_numbers n ++ n ∷ []

-- where the first holds, the second holds
abbrev pub implies : Bool → Bool → Bool
implies true b = b
implies false b = true
