-- Type names as a set, and the file that lists the customizable ones.
use Rattle.std.specs.Prelude.{◌≡◌, ℕ, Bool, true, List, [], ◌∷◌, Result, Ok, Err, map}
use Rattle.std.specs.Prelude.{if◌then◌else◌}
use Rattle.std.specs.List.{list_all}
use Rattle.std.specs.Coded.{Coded, coded_ℕ, coded_list}
use Rattle.std.specs.Cmp.Lexicographic.{slice_cmp}
use Rattle.std.specs.FinMap.{from_entries, contains_key, keys}
use Rattle.std.specs.FinSet.{FinSet, code}
use Rattle.std.specs.List.Sorted.{IsStrictlySortedBy}
use Rattle.std.specs.Ordering.{nat_cmp}
use Rattle.label_base.specs.Lines.{lines_read}
use Rattle.label_base.specs.declared.lines.RefusedLine.{RefusedLine}
use Rattle.context_syntax.specs.declared.customizable.NoTypeName.{NoTypeName}
use Rattle.context_syntax.specs.Context.{is_word}

-- a finite set of names
abbrev pub NameSet : Type 0
NameSet = FinSet (slice_cmp nat_cmp)

abbrev pub name_set_code : Coded NameSet
name_set_code = code (coded_list coded_ℕ)

abbrev pub name_entry : List ℕ → List ℕ × Unit {0}
name_entry name = (name, tt)

-- the set of the names of a list
abbrev pub set_of : List (List ℕ) → NameSet
set_of names = from_entries (map name_entry names)

abbrev pub set_has_name : NameSet → List ℕ → Bool
set_has_name names name = contains_key names name

-- the names of a set in byte order, each once
abbrev pub names_in_order : NameSet → List (List ℕ)
names_in_order names = keys names

-- type names in byte order, each once
pub record IsTypeRow (names : List (List ℕ)) : Type 0 where
  pub words : list_all is_word names ≡ true
  pub ordered : IsStrictlySortedBy (slice_cmp nat_cmp) names

abbrev pub no_name : NoTypeName
no_name = record {}

abbrev pub word_or_none : List ℕ → Result (List ℕ) NoTypeName
word_or_none name = if is_word name then Ok name else Err no_name

-- the type name that the fields of a line are: one field, a type name
abbrev pub name_in : List (List ℕ) → Result (List ℕ) NoTypeName
name_in (name ∷ []) = word_or_none name
name_in fields = Err no_name

-- the names of all lines, or the first line that is refused
abbrev pub names_read : List ℕ → Result (List (List ℕ)) (RefusedLine NoTypeName)
names_read bytes = lines_read (λ number. name_in) bytes

abbrev pub set_or_line : Result (List (List ℕ)) (RefusedLine NoTypeName)
    → Result NameSet (RefusedLine NoTypeName)
set_or_line (Ok names) = Ok (set_of names)
set_or_line (Err refused) = Err refused

-- the set that a file lists, or its first refused line
abbrev pub types_read : List ℕ → Result NameSet (RefusedLine NoTypeName)
types_read bytes = set_or_line (names_read bytes)
