-- The specifications whose patterns match, and which of them decides.
use Rattle.std.specs.Prelude.{ℕ, ◌+◌, Bool, List, ◌++◌, take, drop, filter, map, reverse}
use Rattle.std.specs.Prelude.{Option, slice_get}
use Rattle.std.specs.List.{position_or_len}
use Rattle.label_base.specs.Kind.{applies}
use Rattle.label_base.specs.declared.kind.Asked.TheVariants.{Of}
use Rattle.label_base.specs.declared.kind.EntryKind.{EntryKind}
use Rattle.pattern_syntax.specs.Language.{holds}
use Rattle.spec_reader.specs.SpecValue.{SpecValue}
use Rattle.path_reasons.specs.declared.members.Member.{Member}

-- the specification's language holds the text, whatever its kind
abbrev pub does_speak : List ℕ → SpecValue → Bool
does_speak text spec = holds spec.pattern text

-- those of a list, the latest first
abbrev pub members : List ℕ → List SpecValue → List SpecValue
members text specs = reverse (filter (does_speak text) specs)

-- it applies to entries of a kind
abbrev pub applies_to : EntryKind → SpecValue → Bool
applies_to asked spec = applies spec.kind (Of asked)

-- the place of the first that applies, or how many there are
abbrev pub place_in : EntryKind → List SpecValue → ℕ
place_in asked found = position_or_len (applies_to asked) found

-- the one that decides: the first that applies
abbrev pub decided_in : EntryKind → List SpecValue → Option SpecValue
decided_in asked found = slice_get found (place_in asked found)

-- the others, in order
abbrev pub others_in : EntryKind → List SpecValue → List SpecValue
others_in asked found =
    take (place_in asked found) found ++ drop (place_in asked found + 1) found

-- ---- what contracts see of members that are lent

abbrev pub spec_seen : Member → SpecValue
spec_seen member = member.spec.now

abbrev pub specs_seen : List Member → List SpecValue
specs_seen found = map spec_seen found
