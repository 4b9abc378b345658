-- Bracket sets, as pcrepattern(3) has them under "Square brackets and character classes" and "Posix
-- character classes".
use Rattle.std.specs.Prelude.{ℕ, zero, suc, ◌+◌, ◌-◌, Bool, true, false, ◌==◌, ◌&&◌, ◌||◌, not}
use Rattle.std.specs.Prelude.{nat_lt, nat_eq, List, [], ◌∷◌, codes, Option, Some, None, Result, Ok}
use Rattle.std.specs.Prelude.{Err, if◌then◌else◌}
use Rattle.std.specs.List.{starts_with}
use Rattle.label_base.specs.Spelling.{byte}
use Rattle.pattern_syntax.specs.ByteSet.{bytes_with, no_bytes}
use Rattle.pattern_syntax.specs.Classes.{either, is_between, all_but, is_alpha, is_lower, is_upper}
use Rattle.pattern_syntax.specs.Classes.{is_digit_class, is_alnum, is_hexadecimal, is_blank_class}
use Rattle.pattern_syntax.specs.Classes.{is_space_class, is_control, is_graphic, is_printed}
use Rattle.pattern_syntax.specs.Classes.{is_punctuation}
use Rattle.pattern_syntax.specs.Escapes.{EscapeItem, One, Class, escape_at}
use Rattle.pattern_syntax.specs.declared.refusal.Refusal.{Refusal}
use Rattle.pattern_syntax.specs.declared.refusal.Refusal.TheVariants.{Syntax, Unsupported}

abbrev pub Named : Type 0
Named = Option ((ℕ → Bool) × ℕ)

-- the class whose name stands here with :] behind it, and the length of [:name:]
unfoldable pub printing_class : List ℕ → Named
printing_class text =
    if starts_with nat_eq text (codes "cntrl:]") then Some (is_control, 9)
    else if starts_with nat_eq text (codes "graph:]") then Some (is_graphic, 9)
    else if starts_with nat_eq text (codes "print:]") then Some (is_printed, 9)
    else if starts_with nat_eq text (codes "punct:]") then Some (is_punctuation, 9)
    else None

unfoldable pub number_class : List ℕ → Named
number_class text =
    if starts_with nat_eq text (codes "digit:]") then Some (is_digit_class, 9)
    else if starts_with nat_eq text (codes "xdigit:]") then Some (is_hexadecimal, 10)
    else if starts_with nat_eq text (codes "blank:]") then Some (is_blank_class, 9)
    else if starts_with nat_eq text (codes "space:]") then Some (is_space_class, 9)
    else printing_class text

unfoldable pub named_class : List ℕ → Named
named_class text =
    if starts_with nat_eq text (codes "alpha:]") then Some (is_alpha, 9)
    else if starts_with nat_eq text (codes "lower:]") then Some (is_lower, 9)
    else if starts_with nat_eq text (codes "upper:]") then Some (is_upper, 9)
    else if starts_with nat_eq text (codes "alnum:]") then Some (is_alnum, 9)
    else number_class text

abbrev pub class_or_refusal : Named → Result (EscapeItem × ℕ) Refusal
class_or_refusal (Some class) = Ok (Class class.0, class.1)
class_or_refusal None = Err Unsupported

-- what stands behind a [ in a set: a class after a colon; [. and [= are PCRE's; else the [ is
-- itself
unfoldable pub inner_bracket : List ℕ → Result (EscapeItem × ℕ) Refusal
inner_bracket [] = Ok (One 91, 1)
inner_bracket (b ∷ bs) =
    if b == byte ":" then class_or_refusal (named_class bs)
    else if (b == byte ".") || (b == byte "=") then Err Unsupported
    else Ok (One 91, 1)

-- the item that stands here, and its length
unfoldable pub item_at : List ℕ → Result (EscapeItem × ℕ) Refusal
item_at [] = Err Syntax
item_at (b ∷ bs) =
    if b == 0 then Err Syntax
    else if b == byte "[" then inner_bracket bs
    else if b == byte "\\" then escape_at bs
    else Ok (One b, 1)

-- a part of a set: its bytes; the byte that may be the low end of a range behind it; its length
pub record ClassPart : Type 0 where
  pub has : ℕ → Bool
  pub low : Option ℕ
  pub length : ℕ

abbrev pub single_part : ℕ → ℕ → ClassPart
single_part b length = record { has = is_between b b; low = Some b; length = length }

-- an item alone
abbrev pub lone_part : Result (EscapeItem × ℕ) Refusal → Result ClassPart Refusal
lone_part (Ok (One b, n)) = Ok (single_part b n)
lone_part (Ok (Class has, n)) = Ok (record { has = has; low = None; length = n })
lone_part (Err refusal) = Err refusal

-- a range up to a single byte; a - before anything else is an ordinary byte
abbrev pub range_part : ℕ → Result (EscapeItem × ℕ) Refusal → Result ClassPart Refusal
range_part low (Ok (One high, n)) =
    if nat_lt high low then Err Syntax
    else Ok (record { has = is_between low high; low = None; length = n + 1 })
range_part low (Ok (Class has, n)) = Ok (single_part (byte "-") 1)
range_part low (Err refusal) = Ok (single_part (byte "-") 1)

-- a - behind a byte that may begin a range, and what stands behind the -
unfoldable pub dash_part : ℕ → List ℕ → Result ClassPart Refusal
dash_part low [] = Ok (single_part (byte "-") 1)
dash_part low (b ∷ bs) = if b == byte "]" then Ok (single_part (byte "-") 1) else range_part low
    (item_at (b ∷ bs))

-- the part that stands here, behind a byte that may begin a range
unfoldable pub part_behind : ℕ → List ℕ → Result ClassPart Refusal
part_behind low [] = Err Syntax
part_behind low (b ∷ bs) = if b == byte "-" then dash_part low bs else lone_part (item_at (b ∷ bs))

-- the part that stands here
abbrev pub part_at : Option ℕ → List ℕ → Result ClassPart Refusal
part_at None text = lone_part (item_at text)
part_at (Some low) text = part_behind low text

abbrev pub after_part : Result ClassPart Refusal → (ClassPart → Result ((ℕ → Bool) × ℕ) Refusal)
    → Result ((ℕ → Bool) × ℕ) Refusal
after_part (Ok part) rest = rest part
after_part (Err refusal) rest = Err refusal

-- the bytes of the parts from here to the ] that ends the set, and the place behind it; skip bytes
-- belong to the part before. A ] right at the beginning is an item.
unfoldable pub parts_from : (begins : Bool) (low : Option ℕ) (has : ℕ → Bool) (place skip : ℕ)
    → List ℕ → Result ((ℕ → Bool) × ℕ) Refusal
parts_from begins low has place skip [] = Err Syntax
parts_from begins low has place (suc skip) (b ∷ bs) = parts_from begins low has (place + 1) skip bs
parts_from begins low has place zero (b ∷ bs) =
    if (b == byte "]") && not begins then Ok (has, place + 1)
    else after_part (part_at low (b ∷ bs))
    (λ part. parts_from false part.low (either has part.has) (place + 1) (part.length - 1) bs)

abbrev pub nonempty_set : List ℕ → ℕ → Result (List ℕ × ℕ) Refusal
nonempty_set [] n = Err Syntax
nonempty_set (b ∷ bs) n = Ok (b ∷ bs, n)

-- the set of the bytes behind so many others, or of all but them
abbrev pub whole_set : (negated : Bool) (before : ℕ) → Result ((ℕ → Bool) × ℕ) Refusal
    → Result (List ℕ × ℕ) Refusal
whole_set negated before (Err refusal) = Err refusal
whole_set false before (Ok parts) = nonempty_set (bytes_with parts.0) (parts.1 + before)
whole_set true before (Ok parts) = nonempty_set (bytes_with (all_but parts.0)) (parts.1 + before)

-- the set behind a [, as its bytes, and its length with the [
unfoldable pub set_at : List ℕ → Result (List ℕ × ℕ) Refusal
set_at [] = Err Syntax
set_at (b ∷ bs) =
    if b == byte "^" then whole_set true 2 (parts_from true None no_bytes 0 0 bs)
    else whole_set false 1 (parts_from true None no_bytes 0 0 (b ∷ bs))
