-- The escapes of a dump: the backslash, control bytes and DEL in three octal digits, as setfattr(1)
-- reads them.
use Rattle.std.specs.Prelude.{ℕ, ◌+◌, ◌-◌, ◌*◌, ◌/◌, ◌%◌, Bool, true, false, ◌==◌, ◌&&◌, nat_lt}
use Rattle.std.specs.Prelude.{nat_le, List, [], ◌∷◌, ◌++◌, Option, Some, None, if◌then◌else◌}
use Rattle.std.specs.List.{flat_map}
use Rattle.label_base.specs.Spelling.{byte}
use Rattle.label_base.specs.declared.cut.TheConstants.{BLANK}
use Rattle.label_base.specs.declared.escape.TheConstants.{BACKSLASH, DEL}
use Rattle.label_base.specs.declared.escape.EscapeFault.{EscapeFault}
use Rattle.label_base.specs.declared.escape.EscapeFault.TheVariants.{BadEscape, OutOfMemory}

-- a byte that stands for itself
abbrev pub is_plain_byte : ℕ → Bool
is_plain_byte b = if b == BACKSLASH then false else if nat_lt b BLANK then false
    else if b == DEL then false else true

abbrev pub escaped_byte : ℕ → List ℕ
escaped_byte b =
    if is_plain_byte b then b ∷ [] else BACKSLASH ∷ (byte "0" + b / 64) ∷ (byte "0" + b / 8 % 8)
    ∷ (byte "0" + b % 8)
    ∷ []

-- the bytes with each escaped
abbrev pub escaped : List ℕ → List ℕ
escaped bytes = flat_map escaped_byte bytes

abbrev pub is_octal : ℕ → Bool
is_octal b = nat_le (byte "0") b && nat_le b (byte "7")

abbrev pub octal_value : ℕ → ℕ → ℕ → ℕ
octal_value x y z = 64 * (x - byte "0") + 8 * (y - byte "0") + (z - byte "0")

-- the byte that three octal digits stand for
abbrev pub octal_byte : ℕ → ℕ → ℕ → Option ℕ
octal_byte x y z =
    if is_octal x && is_octal y && is_octal z
    && nat_lt (octal_value x y z) 256 then Some (octal_value x y z) else None

-- bytes before what the rest reads as
abbrev pub in_front : List ℕ → Option (List ℕ) → Option (List ℕ)
in_front bytes None = None
in_front bytes (Some rest) = Some (bytes ++ rest)

-- a byte before what the rest reads as
abbrev pub led_by : Option ℕ → Option (List ℕ) → Option (List ℕ)
led_by None rest = None
led_by (Some b) rest = in_front (b ∷ []) rest

-- the bytes that a text reads as, if each backslash is followed by three octal digits of a byte
unfoldable pub unescaped : List ℕ → Option (List ℕ)
unescaped [] = Some []
unescaped (b ∷ x ∷ y ∷ z ∷ rest) =
    if b == BACKSLASH then led_by (octal_byte x y z) (unescaped rest)
    else led_by (Some b) (unescaped (x ∷ y ∷ z ∷ rest))
unescaped (b ∷ rest) = if b == BACKSLASH then None else led_by (Some b) (unescaped rest)

-- a fault that says nothing of the text
abbrev pub is_free : EscapeFault → Bool
is_free BadEscape = false
is_free OutOfMemory = true

-- what a text behind a backslash reads as, and what is left of a text from a backslash on
abbrev pub after_backslash : List ℕ → Option (List ℕ)
after_backslash (x ∷ y ∷ z ∷ rest) = led_by (octal_byte x y z) (unescaped rest)
after_backslash rest = None

abbrev pub unescaped_left : Option (List ℕ) → Option (List ℕ)
unescaped_left None = Some []
unescaped_left (Some text) = after_backslash text
