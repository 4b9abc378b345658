-- The bytes of one position.
use Rattle.std.specs.Prelude.{◌≡◌, ℕ, ◌<◌, Bool, true, false, not, ◌&&◌, ◌==◌, List, [], ◌∷◌}
use Rattle.std.specs.Prelude.{Option, Some, None, slice_get}
use Rattle.pattern_syntax.specs.ByteSet.{has_byte, bytes_with}
use Rattle.pattern_match.specs.declared.class.Class.{Class}
use Rattle.pattern_match.specs.declared.class.Class.TheVariants.{Byte, Set}

abbrev pub class_bytes : Class → List ℕ
class_bytes (Byte b) = b ∷ []
class_bytes (Set set) = bytes_with (has_byte set)

abbrev pub takes : Class → ℕ → Bool
takes (Byte c) b = c == b
takes (Set set) b = not (b == 0) && has_byte set b

-- of a list of classes, the one at an index has the byte
abbrev pub has_class : Option Class → ℕ → Bool
has_class None b = false
has_class (Some class) b = takes class b

abbrev pub takes_at : List Class → ℕ → ℕ → Bool
takes_at classes k b = has_class (slice_get classes k) b

-- every byte that texts have passes: each but 0
abbrev pub HasEachByte : (ℕ → Bool) → Type 0
HasEachByte test = (b : ℕ) → 0 < b → b < 256 → test b ≡ true
