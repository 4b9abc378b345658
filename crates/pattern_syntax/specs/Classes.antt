-- The classes of bytes that patterns name, as tests of a byte (ASCII alone, as PCRE has them in the
-- C locale).
use Rattle.std.specs.Prelude.{ℕ, Bool, nat_le, ◌==◌, ◌&&◌, ◌||◌, not}
use Rattle.label_base.specs.Spelling.{byte, carriage_return, delete, tab}

abbrev pub is_between : ℕ → ℕ → ℕ → Bool
is_between low high b = nat_le low b && nat_le b high

-- 0x01 to 0xff
abbrev pub is_text_byte : ℕ → Bool
is_text_byte b = is_between 1 255 b

-- the complement, within the bytes of texts
abbrev pub all_but : (ℕ → Bool) → ℕ → Bool
all_but has b = is_text_byte b && not (has b)

-- the bytes that pass one of two tests
abbrev pub either : (ℕ → Bool) → (ℕ → Bool) → ℕ → Bool
either has more b = has b || more b

abbrev pub is_digit_class : ℕ → Bool
is_digit_class b = is_between (byte "0") (byte "9") b

abbrev pub is_lower : ℕ → Bool
is_lower b = is_between (byte "a") (byte "z") b

abbrev pub is_upper : ℕ → Bool
is_upper b = is_between (byte "A") (byte "Z") b

abbrev pub is_alpha : ℕ → Bool
is_alpha b = is_lower b || is_upper b

abbrev pub is_alnum : ℕ → Bool
is_alnum b = is_alpha b || is_digit_class b

abbrev pub is_word_class : ℕ → Bool
is_word_class b = is_alnum b || (b == byte "_")

abbrev pub is_space_class : ℕ → Bool
is_space_class b = is_between tab carriage_return b || (b == byte " ")

abbrev pub is_blank_class : ℕ → Bool
is_blank_class b = (b == byte " ") || (b == tab)

abbrev pub is_hexadecimal : ℕ → Bool
is_hexadecimal b = is_digit_class b || is_between (byte "a") (byte "f") b || is_between (byte "A")
    (byte "F") b

abbrev pub is_control : ℕ → Bool
is_control b = is_between 1 31 b || (b == delete)

abbrev pub is_graphic : ℕ → Bool
is_graphic b = is_between (byte "!") (byte "~") b

abbrev pub is_printed : ℕ → Bool
is_printed b = is_between (byte " ") (byte "~") b

abbrev pub is_punctuation : ℕ → Bool
is_punctuation b = is_graphic b && not (is_alnum b)
