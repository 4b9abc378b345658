-- Escapes, as pcrepattern(3) has them, of which this dialect takes the ones below. Each function is
-- given what stands behind the backslash, and answers with the item, and its length with the
-- backslash.
use Rattle.std.specs.Prelude.{ℕ, ◌+◌, ◌-◌, ◌*◌, Bool, ◌==◌, List, [], ◌∷◌, Option, Some, None}
use Rattle.std.specs.Prelude.{Result, Ok, Err, if◌then◌else◌}
use Rattle.label_base.specs.Spelling.{byte, carriage_return, line_feed, tab}
use Rattle.pattern_syntax.specs.Classes.{is_digit_class, is_word_class, is_space_class, is_alnum}
use Rattle.pattern_syntax.specs.Classes.{is_between, all_but}
use Rattle.pattern_syntax.specs.declared.refusal.Refusal.{Refusal}
use Rattle.pattern_syntax.specs.declared.refusal.Refusal.TheVariants.{Syntax, Unsupported}

-- what an escape or an item of a bracket set stands for: one byte, or the bytes that pass a test
pub data EscapeItem : Type 0 where
  One : (b : ℕ) → EscapeItem
  Class : (has : ℕ → Bool) → EscapeItem

-- \d, \w, \s and their complements
unfoldable pub class_of_letter : ℕ → Option (ℕ → Bool)
class_of_letter b =
    if b == byte "d" then Some is_digit_class else if b == byte "w" then Some is_word_class
    else if b == byte "s" then Some is_space_class
    else if b == byte "D" then Some (all_but is_digit_class) else if b == byte "W" then Some
    (all_but is_word_class)
    else if b == byte "S" then Some (all_but is_space_class)
    else None

-- \n, \t, \r
unfoldable pub control_of_letter : ℕ → Option ℕ
control_of_letter b =
    if b == byte "n" then Some line_feed else if b == byte "t" then Some tab else if b == byte
    "r" then Some carriage_return else None

unfoldable pub hexadecimal_digit : ℕ → Option ℕ
hexadecimal_digit b =
    if is_digit_class b then Some (b - byte "0") else if is_between (byte "a") (byte "f")
    b then Some (b - byte "a" + 10)
    else if is_between (byte "A") (byte "F") b then Some (b - byte "A" + 10) else None

abbrev pub hexadecimal_byte : Option ℕ → Option ℕ → Result (EscapeItem × ℕ) Refusal
hexadecimal_byte (Some high) (Some low) =
    if high * 16 + low == 0 then Err Unsupported else Ok (One (high * 16 + low), 4)
hexadecimal_byte (Some high) None = Err Unsupported
hexadecimal_byte None low = Err Unsupported

-- two digits other than 00
unfoldable pub hexadecimal_at : List ℕ → Result (EscapeItem × ℕ) Refusal
hexadecimal_at [] = Err Unsupported
hexadecimal_at (high ∷ []) = Err Unsupported
hexadecimal_at (high ∷ low ∷ bs) = hexadecimal_byte (hexadecimal_digit high) (hexadecimal_digit low)

-- a letter or digit without a meaning of its own is PCRE's; any other byte but NUL is itself
unfoldable pub plain_escape : ℕ → Result (EscapeItem × ℕ) Refusal
plain_escape b =
    if b == 0 then Err Syntax else if is_alnum b then Err Unsupported else Ok (One b, 2)

abbrev pub control_escape : ℕ → Option ℕ → Result (EscapeItem × ℕ) Refusal
control_escape b (Some byte) = Ok (One byte, 2)
control_escape b None = plain_escape b

abbrev pub letter_escape : ℕ → Option (ℕ → Bool) → Result (EscapeItem × ℕ) Refusal
letter_escape b (Some has) = Ok (Class has, 2)
letter_escape b None = control_escape b (control_of_letter b)

unfoldable pub escape_at : List ℕ → Result (EscapeItem × ℕ) Refusal
escape_at [] = Err Syntax
escape_at (b ∷ bs) = if b == byte "x" then hexadecimal_at bs else letter_escape b
    (class_of_letter b)
