-- Kinds that have the same answer, by their letters.
use Rattle.std.specs.Prelude.{ℕ, Bool, false, ◌==◌, List, [], ◌∷◌, if◌then◌else◌}
use Rattle.std.specs.List.{flat_map}
use Rattle.label_base.specs.Spelling.{byte}
use Rattle.label_base.specs.declared.kind.EntryKind.{EntryKind}
use Rattle.label_base.specs.declared.kind.EntryKind.TheVariants.{Regular, Directory, Link, Pipe}
use Rattle.label_base.specs.declared.kind.EntryKind.TheVariants.{Socket, Block, Char, Other}
use Rattle.spec_reader.specs.SpecValue.{SpecValue}
use Rattle.path_reasons.specs.Members.{place_in}
use Rattle.path_reasons.specs.declared.naming.TheConstants.{TOLD_KINDS}

-- the letter that find(1) prints for a kind by %y
abbrev pub kind_letter : EntryKind → ℕ
kind_letter Regular = byte "f"
kind_letter Directory = byte "d"
kind_letter Link = byte "l"
kind_letter Pipe = byte "p"
kind_letter Socket = byte "s"
kind_letter Block = byte "b"
kind_letter Char = byte "c"
kind_letter Other = byte "U"

-- the same member decides for entries of both kinds, or none does
abbrev pub alike : List SpecValue → EntryKind → EntryKind → Bool
alike found first second = place_in first found == place_in second found

unfoldable pub letter_if_alike : List SpecValue → EntryKind → EntryKind → List ℕ
letter_if_alike found kind other = if alike found kind other then kind_letter other ∷ [] else []

-- the letters of those kinds that have the same answer as a kind
abbrev pub letters_among : List SpecValue → EntryKind → List EntryKind → List ℕ
letters_among found kind kinds = flat_map (letter_if_alike found kind) kinds

-- the letters of all kinds that have
unfoldable pub letters_alike : List SpecValue → EntryKind → List ℕ
letters_alike found kind = letters_among found kind TOLD_KINDS

abbrev pub begins_with : ℕ → List ℕ → Bool
begins_with byte [] = false
begins_with byte (b ∷ bs) = b == byte
