-- Numbers in decimal digits, of at most 64 bits.
use Rattle.std.specs.Prelude.{ℕ, ◌+◌, ◌*◌, ◌-◌, ◌^◌, Bool, nat_lt, nat_le, ◌&&◌, List, [], ◌∷◌}
use Rattle.std.specs.Prelude.{Option, Some, None, if◌then◌else◌}
use Rattle.std.specs.List.{list_all}
use Rattle.label_base.specs.Spelling.{byte}

abbrev pub is_digit : ℕ → Bool
is_digit b = nat_le (byte "0") b && nat_le b (byte "9")

-- the value of digits behind a value so far
abbrev pub decimal : ℕ → List ℕ → ℕ
decimal value [] = value
decimal value (b ∷ bs) = decimal (value * 10 + (b - byte "0")) bs

-- nothing exactly where there is no byte, a byte that is no digit, or a value past 64 bits
abbrev pub number_of : List ℕ → Option ℕ
number_of [] = None
number_of (b ∷ bs) =
    if list_all is_digit (b ∷ bs) && nat_lt (decimal 0 (b ∷ bs)) (2 ^ 64)
    then Some (decimal 0 (b ∷ bs)) else None

-- one digit more
abbrev pub digit_of : ℕ → Option ℕ
digit_of b = if is_digit b then Some (b - byte "0") else None

abbrev pub with_digit : ℕ → Option ℕ → Option ℕ
with_digit value None = None
with_digit value (Some digit) =
    if nat_lt (value * 10 + digit) (2 ^ 64) then Some (value * 10 + digit) else None
