-- The tokens of a pattern and the cutting of its text.
use Rattle.std.specs.Prelude.{codes, ℕ, zero, suc, ◌+◌, ◌*◌, ◌-◌, min, Bool, true, false, ◌==◌}
use Rattle.std.specs.Prelude.{◌||◌}
use Rattle.std.specs.Prelude.{nat_lt, List, [], ◌∷◌, length, drop, Option, Some, None, Result, Ok}
use Rattle.std.specs.Prelude.{Err, if◌then◌else◌}
use Rattle.label_base.specs.Spelling.{byte}
use Rattle.label_base.specs.Number.{decimal}
use Rattle.pattern_syntax.specs.ByteSet.{bytes_with}
use Rattle.pattern_syntax.specs.Classes.{is_digit_class, is_text_byte}
use Rattle.pattern_syntax.specs.Escapes.{EscapeItem, One, Class, escape_at}
use Rattle.pattern_syntax.specs.Brackets.{set_at}
use Rattle.pattern_syntax.specs.declared.refusal.Refusal.{Refusal}
use Rattle.pattern_syntax.specs.declared.refusal.Refusal.TheVariants.{Syntax, Unsupported}
use Rattle.pattern_syntax.specs.declared.limits.TheConstants.{MOST_TIMES}

-- a byte or set, as its bytes; an anchor, which has no effect; a repeat
pub data Token : Type 0 where
  Bytes : (bytes : List ℕ) → Token
  Open : Token
  Close : Token
  Bar : Token
  Anchor : Token
  Times : (least : ℕ) (most : Option ℕ) → Token

-- a token and its length
abbrev pub Cut : Type 0
Cut = Result (Token × ℕ) Refusal

-- a number of times; beyond the greatest all are as one
abbrev pub times_of : List ℕ → ℕ
times_of digits = min (MOST_TIMES + 1) (decimal 0 digits)

-- one digit more
abbrev pub times_more : ℕ → ℕ → ℕ
times_more value b = min (MOST_TIMES + 1) (value * 10 + (b - byte "0"))

-- the digits at the beginning of a text, and what stands behind them
abbrev pub digits_at : List ℕ → List ℕ
digits_at [] = []
digits_at (b ∷ bs) = if is_digit_class b then b ∷ digits_at bs else []

abbrev pub behind_digits : List ℕ → List ℕ
behind_digits [] = []
behind_digits (b ∷ bs) = if is_digit_class b then behind_digits bs else b ∷ bs

-- least, most and the length with the braces
abbrev pub RepeatCounts : Type 0
RepeatCounts = Option (ℕ × (Option ℕ × ℕ))

abbrev pub upper_number : List ℕ → Option ℕ
upper_number [] = None
upper_number (d ∷ ds) = Some (times_of (d ∷ ds))

-- m, of so many digits, and a comma: what stands behind
unfoldable pub upper_counts : (m digits : ℕ) → List ℕ → List ℕ → RepeatCounts
upper_counts m digits upper [] = None
upper_counts m digits upper (b ∷ bs) =
    if b == byte "}" then Some (m, (upper_number upper, digits + length upper + 3)) else None

-- m, of so many digits: what stands behind
unfoldable pub lower_counts : (m digits : ℕ) → List ℕ → RepeatCounts
lower_counts m digits [] = None
lower_counts m digits (b ∷ bs) =
    if b == byte "}" then Some (m, (Some m, digits + 2))
    else if b == byte "," then upper_counts m digits (digits_at bs) (behind_digits bs)
    else None

abbrev pub counts_after : List ℕ → List ℕ → RepeatCounts
counts_after [] rest = None
counts_after (d ∷ ds) rest = lower_counts (times_of (d ∷ ds)) (length (d ∷ ds)) rest

-- {m}, {m,} or {m,n}: what stands behind the {
unfoldable pub counts_at : List ℕ → RepeatCounts
counts_at text = counts_after (digits_at text) (behind_digits text)

-- a number that is too great, or m above n
abbrev pub is_refused_count : ℕ → Option ℕ → Bool
is_refused_count least None = nat_lt MOST_TIMES least
is_refused_count least (Some most) = nat_lt MOST_TIMES most || nat_lt most least

-- a repeat of this length, which takes a lazy mark and is refused before a +
unfoldable pub marked_repeat : (least : ℕ) (most : Option ℕ) (length : ℕ) → List ℕ → Cut
marked_repeat least most length [] = Ok (Times least most, length)
marked_repeat least most length (b ∷ bs) =
    if b == byte "?" then Ok (Times least most, length + 1)
    else if b == byte "+" then Err Unsupported
    else Ok (Times least most, length)

-- the { is a byte where it begins no repeat; text is what stands behind it
abbrev pub braced_repeat : List ℕ → RepeatCounts → Cut
braced_repeat text None = Ok (Bytes (codes "{"), 1)
braced_repeat text (Some counts) =
    if is_refused_count counts.0 counts.1.0 then Err Syntax
    else marked_repeat counts.0 counts.1.0 counts.1.1 (drop (counts.1.1 - 1) text)

-- what stands behind a ( that a ? follows
unfoldable pub special_group : List ℕ → Cut
special_group [] = Err Unsupported
special_group (b ∷ bs) = if b == byte ":" then Ok (Open, 3) else Err Unsupported

-- what stands behind a (
unfoldable pub group_at : List ℕ → Cut
group_at [] = Ok (Open, 1)
group_at (b ∷ bs) =
    if b == byte "?" then special_group bs else if b == byte "*" then Err Unsupported else Ok
    (Open, 1)

abbrev pub escape_cut : Result (EscapeItem × ℕ) Refusal → Cut
escape_cut (Ok (One b, n)) = Ok (Bytes (b ∷ []), n)
escape_cut (Ok (Class has, n)) = Ok (Bytes (bytes_with has), n)
escape_cut (Err refusal) = Err refusal

abbrev pub bracketed : Result (List ℕ × ℕ) Refusal → Cut
bracketed (Ok set) = Ok (Bytes set.0, set.1)
bracketed (Err refusal) = Err refusal

-- ^ is an anchor at the pattern's beginning alone, $ at its end alone
unfoldable pub start_anchor : Bool → Cut
start_anchor true = Ok (Anchor, 1)
start_anchor false = Err Unsupported

unfoldable pub end_anchor : List ℕ → Cut
end_anchor [] = Ok (Anchor, 1)
end_anchor (b ∷ bs) = Err Unsupported

unfoldable pub repeat_or_byte : ℕ → List ℕ → Cut
repeat_or_byte b bs =
    if b == byte "*" then marked_repeat 0 None 1 bs
    else if b == byte "+" then marked_repeat 1 None 1 bs
    else if b == byte "?" then marked_repeat 0 (Some 1) 1 bs
    else if b == byte "{" then braced_repeat bs (counts_at bs)
    else if b == byte "." then Ok (Bytes (bytes_with is_text_byte), 1)
    else if b == 0 then Err Syntax
    else Ok (Bytes (b ∷ []), 1)

-- the token at the beginning of a text, and its length; begins says that it is the beginning of the
-- pattern
unfoldable pub token_at : Bool → List ℕ → Cut
token_at begins [] = Err Syntax
token_at begins (b ∷ bs) =
    if b == byte "\\" then escape_cut (escape_at bs)
    else if b == byte "[" then bracketed (set_at bs)
    else if b == byte "(" then group_at bs
    else if b == byte ")" then Ok (Close, 1)
    else if b == byte "|" then Ok (Bar, 1)
    else if b == byte "^" then start_anchor begins
    else if b == byte "$" then end_anchor bs
    else repeat_or_byte b bs

-- a token, or a refusal, and its place
abbrev pub PlacedToken : Type 0
PlacedToken = ℕ × Result Token Refusal

abbrev pub with_place : ℕ → Cut → (ℕ → List PlacedToken) → List PlacedToken
with_place place (Ok cut) rest = (place, Ok cut.0) ∷ rest (cut.1 - 1)
with_place place (Err refusal) rest = (place, Err refusal) ∷ []

-- the tokens from a place on, to the first that is refused; skip bytes belong to the token before
unfoldable pub tokens_from : (place skip : ℕ) → List ℕ → List PlacedToken
tokens_from place skip [] = []
tokens_from place (suc skip) (b ∷ bs) = tokens_from (place + 1) skip bs
tokens_from place zero (b ∷ bs) =
    with_place place (token_at (place == 0) (b ∷ bs)) (λ skip. tokens_from (place + 1) skip bs)
