-- The values of attributes: a text between quotes, or hexadecimal digits, as setfattr(1) has them.
use Rattle.std.specs.Prelude.{ℕ, Bool, false, ◌==◌, ◌||◌, List, [], ◌∷◌, ◌++◌, Option, Some, None}
use Rattle.std.specs.Prelude.{Result, Ok, Err, if◌then◌else◌}
use Rattle.std.specs.List.{flat_map}
use Rattle.std.specs.Result.{result_ok}
use Rattle.label_base.specs.Spelling.{byte}
use Rattle.hex.specs.Hex.{decode_of, encode_lower}
use Rattle.label_base.specs.Escape.{escaped_byte, is_plain_byte, led_by, octal_byte}
use Rattle.label_base.specs.Text.{same_bytes}
use Rattle.setfattr_dump.specs.declared.fault.DumpWhy.{DumpWhy}
use Rattle.setfattr_dump.specs.declared.fault.DumpWhy.TheVariants.{BadValue}
use Rattle.setfattr_dump.specs.declared.marks.TheConstants.{BACKSLASH, DIGEST_KEY, HEX_MARK, QUOTE}
use Rattle.setfattr_dump.specs.declared.marks.TheConstants.{QUOTE_ESCAPE, QUOTE_MARK, ZERO}

-- ---- how a value is read

-- what of an escape stands before the bytes that are left: nothing, a backslash, a digit more, two
pub data Before : Type 0 where
  Nothing : Before
  Backslash : Before
  One : (x : ℕ) → Before
  Two : (x y : ℕ) → Before

-- a byte that a backslash before it makes an ordinary one
abbrev pub is_escapable : ℕ → Bool
is_escapable b = (b == QUOTE) || (b == BACKSLASH)

-- nothing stands behind the quote that closes a text
abbrev pub quote_closed : List ℕ → Option (List ℕ)
quote_closed [] = Some []
quote_closed (b ∷ bs) = None

-- the bytes of a text, up to the quote that closes it
unfoldable pub text_read : Before → List ℕ → Option (List ℕ)
text_read before [] = None
text_read Nothing (b ∷ rest) =
    if b == QUOTE then quote_closed rest
    else if b == BACKSLASH then text_read Backslash rest
    else led_by (Some b) (text_read Nothing rest)
text_read Backslash (x ∷ rest) =
    if is_escapable x then led_by (Some x) (text_read Nothing rest) else text_read (One x) rest
text_read (One x) (y ∷ rest) = text_read (Two x y) rest
text_read (Two x y) (z ∷ rest) = led_by (octal_byte x y z) (text_read Nothing rest)

-- the bytes of pairs of hexadecimal digits, of either case
abbrev pub digits_read : List ℕ → Option (List ℕ)
digits_read digits = result_ok (decode_of digits)

-- an x of either case
abbrev pub is_digits_mark : ℕ → Bool
is_digits_mark x = (x == byte "x") || (x == byte "X")

-- what stands behind the zero: an x and the digits
unfoldable pub behind_zero : List ℕ → Option (List ℕ)
behind_zero [] = None
behind_zero (x ∷ digits) = if is_digits_mark x then digits_read digits else None

-- what is left of a text: nothing where it is closed
abbrev pub text_left : Option (List ℕ) → Option (List ℕ)
text_left None = Some []
text_left (Some text) = text_read Nothing text

-- the bytes of a value
unfoldable pub value_read : List ℕ → Option (List ℕ)
value_read [] = None
value_read (b ∷ rest) =
    if b == QUOTE then text_read Nothing rest else if b == ZERO then behind_zero rest else None

-- what can't be read is a bad value
abbrev pub value_or_bad : Option (List ℕ) → Result (List ℕ) DumpWhy
value_or_bad None = Err BadValue
value_or_bad (Some value) = Ok value

-- ---- how a value is written

-- a byte between quotes: as in the name of a file, and the quote escaped too
abbrev pub quoted_byte : ℕ → List ℕ
quoted_byte b = if b == QUOTE then QUOTE_ESCAPE.now else escaped_byte b

-- a byte that stands for itself between quotes
abbrev pub is_kept : ℕ → Bool
is_kept b = if b == QUOTE then false else is_plain_byte b

abbrev pub quoted_bytes : List ℕ → List ℕ
quoted_bytes bytes = flat_map quoted_byte bytes

-- a byte in two lower-case digits
abbrev pub hex_byte : ℕ → List ℕ
hex_byte b = encode_lower (b ∷ [])

abbrev pub hex_bytes : List ℕ → List ℕ
hex_bytes bytes = flat_map hex_byte bytes

-- the attribute that is written in hexadecimal digits
abbrev pub is_digest : List ℕ → Bool
is_digest key = same_bytes key DIGEST_KEY.now

-- a digest in lower-case digits, any other value between quotes
abbrev pub value_text : List ℕ → List ℕ → List ℕ
value_text key value =
    if is_digest key then HEX_MARK.now ++ hex_bytes value
    else QUOTE_MARK.now ++ quoted_bytes value ++ QUOTE_MARK.now
