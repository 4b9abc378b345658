-- Sets of bytes.
use Rattle.std.specs.Prelude.{ℕ, ◌/◌, ◌%◌, ◌^◌, ◌-◌, ◌==◌, Bool, true, false, List, [], ◌∷◌, filter}
use Rattle.std.specs.Prelude.{slice_index, Option, Some, None}
use Rattle.std.specs.List.{range_with_len}
use Rattle.pattern_syntax.specs.declared.byte_set.ByteSet.{ByteSet}

-- bit b % 64 of word b / 64 is set
abbrev pub has_byte : ByteSet → ℕ → Bool
has_byte set b = (slice_index set.words (b / 64) / 2 ^ (b % 64)) % 2 == 1

-- the bytes that texts have: 0x01 to 0xff
abbrev pub text_bytes : List ℕ
text_bytes = range_with_len 1 255

-- the bytes that pass, in ascending order
unfoldable pub bytes_with : (ℕ → Bool) → List ℕ
bytes_with p = filter p text_bytes

-- those from a byte on
abbrev pub bytes_from : (ℕ → Bool) → ℕ → List ℕ
bytes_from p low = filter p (range_with_len low (256 - low))

-- the test of the empty set
abbrev pub no_bytes : ℕ → Bool
no_bytes b = false

-- the byte of a set of one byte
abbrev pub only_of : List ℕ → Option ℕ
only_of [] = None
only_of (b ∷ []) = Some b
only_of (b ∷ c ∷ bs) = None

abbrev pub is_none_of : List ℕ → Bool
is_none_of [] = true
is_none_of (b ∷ bs) = false
