-- The grammar of records, as find(1) writes them by -printf '%y %D %i %Z %p\0', or with a link
-- count by -printf '%y %D %i %n %Z %p\0', and below it how it is computed.
use Rattle.std.specs.Prelude.{◌≡◌, ◌⊎◌, ℕ, ◌+◌, ◌<◌, ◌≤◌, Bool, true, false, ◌==◌, nat_lt, List, []}
use Rattle.std.specs.Prelude.{◌∷◌, ◌++◌, length, Contains, count_by, Option, Some, None, IsSome}
use Rattle.std.specs.Prelude.{Result, Ok, Err, if◌then◌else◌}
use Rattle.std.specs.List.{slice_split}
use Rattle.std.specs.Option.{option_map}
use Rattle.label_base.specs.Cut.{front, behind}
use Rattle.label_base.specs.Number.{number_of}
use Rattle.label_base.specs.Kind.{letter_kind}
use Rattle.file_paths.specs.Path.{Path, path_read}
use Rattle.file_paths.specs.declared.path_fault.PathWhy.{PathWhy}
use Rattle.label_base.specs.declared.kind.EntryKind.{EntryKind}
use Rattle.context_syntax.specs.Label.{label_of}
use Rattle.context_syntax.specs.declared.label.Label.{Label}
use Rattle.find_records.specs.Record.{Record}
use Rattle.find_records.specs.declared.format.Format.{Format}
use Rattle.find_records.specs.declared.format.Format.TheVariants.{One, Two}
use Rattle.find_records.specs.declared.record.TheConstants.{SPACE}
use Rattle.find_records.specs.declared.reading.TheConstants.{NUL}
use Rattle.find_records.specs.declared.reading.RecordLimits.{RecordLimits}
use Rattle.find_records.specs.declared.fault.RecordWhy.{RecordWhy}
use Rattle.find_records.specs.declared.fault.RecordWhy.TheVariants.{MissingField, BadType}
use Rattle.find_records.specs.declared.fault.RecordWhy.TheVariants.{BadNumber, BadPath}
use Rattle.find_records.specs.declared.fault.RecordsFault.{RecordsFault}
use Rattle.find_records.specs.declared.fault.RecordsFault.TheVariants.{TooMany, Refused, Unended}

-- ---- one record

-- the bytes of the five fields, and of the link count where there is one
pub record Fields : Type 0 where
  pub letter : List ℕ
  pub device : List ℕ
  pub inode : List ℕ
  pub links : Option (List ℕ)
  pub label : List ℕ
  pub path : List ℕ

-- a link count and its space stand before the rest, where there is one
abbrev pub behind_links : Option (List ℕ) → List ℕ → List ℕ
behind_links None rest = rest
behind_links (Some links) rest = links ++ SPACE ∷ rest

-- the second format alone has a link count, which holds no space
abbrev pub HasLinks : Format → Option (List ℕ) → Type 0
HasLinks One None = Unit {0}
HasLinks One (Some links) = ⊥
HasLinks Two None = ⊥
HasLinks Two (Some links) = ¬ Contains links SPACE

-- the bytes are these fields with one space between two of them; a path may hold spaces
pub record HasFields (format : Format) (bytes : List ℕ) (fields : Fields) : Type 0 where
  pub text :
      bytes ≡ fields.letter ++ SPACE ∷ fields.device ++ SPACE ∷ fields.inode
      ++ SPACE ∷ behind_links fields.links (fields.label ++ SPACE ∷ fields.path)
  pub letter : ¬ Contains fields.letter SPACE
  pub device : ¬ Contains fields.device SPACE
  pub inode : ¬ Contains fields.inode SPACE
  pub links : HasLinks format fields.links
  pub label : ¬ Contains fields.label SPACE

-- the kind that find(1) tells by a letter
abbrev pub kind_of : List ℕ → Option EntryKind
kind_of [] = None
kind_of (letter ∷ []) = letter_kind letter
kind_of (letter ∷ more ∷ rest) = None

-- the link count that its field tells; none, where the field isn't there
abbrev pub links_of : Option (List ℕ) → Option (Option ℕ)
links_of None = Some None
links_of (Some field) = option_map (λ count. Some count) (number_of field)

-- what the fields tell: a kind, decimal numbers of at most 64 bits, a label, an absolute path
pub record AreFieldsOf (fields : Fields) (found : Record) : Type 0 where
  pub kind : kind_of fields.letter ≡ Some found.kind
  pub device : number_of fields.device ≡ Some found.device
  pub inode : number_of fields.inode ≡ Some found.inode
  pub links : links_of fields.links ≡ Some found.links
  pub label : label_of fields.label ≡ found.label
  pub path : path_read fields.path ≡ Ok found.path

-- the bytes spell this record
pub record SpellsRecord (format : Format) (bytes : List ℕ) (found : Record) : Type 0 where
  pub fields : Fields
  pub cut : HasFields format bytes fields
  pub record_is : AreFieldsOf fields found

-- nothing is wrong with the fields before the path
pub record AreGoodFields (fields : Fields) : Type 0 where
  pub kind : IsSome (kind_of fields.letter)
  pub device : IsSome (number_of fields.device)
  pub inode : IsSome (number_of fields.inode)
  pub links : IsSome (links_of fields.links)

-- what is wrong with the fields, where nothing before it is
abbrev pub AreBadFields : Fields → RecordWhy → Type 0
AreBadFields fields MissingField = ⊥
AreBadFields fields BadType = kind_of fields.letter ≡ None
AreBadFields fields BadNumber =
    IsSome (kind_of fields.letter)
    × ((number_of fields.device ≡ None)
    ⊎ ((number_of fields.inode ≡ None) ⊎ (links_of fields.links ≡ None)))
AreBadFields fields (BadPath why) = AreGoodFields fields × (path_read fields.path ≡ Err why)

abbrev pub is_field_space : ℕ → Bool
is_field_space b = b == SPACE

-- how many spaces a record has at least
abbrev pub spaces_in : Format → ℕ
spaces_in One = 4
spaces_in Two = 5

-- the bytes spell no record, and why
abbrev pub IsBadRecord : Format → List ℕ → RecordWhy → Type 0
IsBadRecord format bytes MissingField = count_by is_field_space bytes < spaces_in format
IsBadRecord format bytes why = (fields : Fields) × HasFields format bytes fields
    × AreBadFields fields why

-- ---- a run of records

-- the bytes are these records, each ended by a NUL
pub data IsRun (format : Format) : List ℕ → List Record → Type 0 where
  none : IsRun format [] []
  more : (bytes rest : List ℕ) (first : Record) (others : List Record)
      → ¬ Contains bytes NUL
      → SpellsRecord format bytes first
      → IsRun format rest others
      → IsRun format (bytes ++ NUL ∷ rest) (first ∷ others)

-- behind good records these bytes are left, for the record with this number
pub record RecordStandsAt (format : Format) (bytes : List ℕ) (number : ℕ) (left : List ℕ)
    : Type 0 where
  pub front : List ℕ
  pub records : List Record
  pub text : bytes ≡ front ++ left
  pub good : IsRun format front records
  pub count : length records + 1 ≡ number

-- bytes are left behind as many good records as there may be
pub record HasTooMany (format : Format) (most : ℕ) (bytes : List ℕ) : Type 0 where
  pub left : List ℕ
  pub place : RecordStandsAt format bytes (most + 1) left
  pub some : 0 < length left

-- behind good records, the one with this number is refused
pub record IsRecordRefusedAt (format : Format) (most : ℕ) (bytes : List ℕ) (number : ℕ)
    (why : RecordWhy)
    : Type 0 where
  pub bad : List ℕ
  pub rest : List ℕ
  pub place : RecordStandsAt format bytes number (bad ++ NUL ∷ rest)
  pub within : number ≤ most
  pub ended : ¬ Contains bad NUL
  pub is_bad : IsBadRecord format bad why

-- behind good records, the last one has this number and no NUL
pub record IsUnendedAt (format : Format) (most : ℕ) (bytes : List ℕ) (number : ℕ) : Type 0 where
  pub left : List ℕ
  pub place : RecordStandsAt format bytes number left
  pub within : number ≤ most
  pub some : 0 < length left
  pub unended : ¬ Contains left NUL

-- what the bytes mean, where there may be so many records
abbrev pub Means : Format → ℕ → List ℕ → Result (List Record) RecordsFault → Type 0
Means format most bytes (Ok records) = IsRun format bytes records × (length records ≤ most)
Means format most bytes (Err TooMany) = HasTooMany format most bytes
Means format most bytes (Err (Refused number why)) = IsRecordRefusedAt format most bytes number why
Means format most bytes (Err (Unended number)) = IsUnendedAt format most bytes number
Means format most bytes (Err fault) = ⊥

-- ---- how it is computed

-- the path of a record
abbrev pub path_from : Result Path PathWhy → Result Path RecordWhy
path_from (Ok path) = Ok path
path_from (Err why) = Err (BadPath why)

abbrev pub path_field : List ℕ → Result Path RecordWhy
path_field bytes = path_from (path_read bytes)

-- the record of the fields' values, or the first of them that is bad
abbrev pub record_from : Option EntryKind → Option ℕ → Option ℕ → Option (Option ℕ) → Label
    → Result Path RecordWhy → Result Record RecordWhy
record_from None device inode links label path = Err BadType
record_from (Some kind) None inode links label path = Err BadNumber
record_from (Some kind) (Some device) None links label path = Err BadNumber
record_from (Some kind) (Some device) (Some inode) None label path = Err BadNumber
record_from (Some kind) (Some device) (Some inode) (Some links) label (Err why) = Err why
record_from (Some kind) (Some device) (Some inode) (Some links) label (Ok path) =
    Ok (record {
      kind = kind;
      device = device;
      inode = inode;
      links = links;
      label = label;
      path = path;
    })

-- the record of the fields
abbrev pub with_path : List ℕ → List ℕ → List ℕ → Option (List ℕ) → List ℕ → List ℕ
    → Result Record RecordWhy
with_path letter device inode links label path =
    record_from (kind_of letter) (number_of device) (number_of inode) (links_of links)
    (label_of label) (path_field path)

-- the fields so far, and what stands behind the last one's space, if it has one
abbrev pub label_then : List ℕ → List ℕ → List ℕ → Option (List ℕ) → List ℕ → Option (List ℕ)
    → Result Record RecordWhy
label_then letter device inode links label None = Err MissingField
label_then letter device inode links label (Some path) =
    with_path letter device inode links label path

-- the label and the path stand behind the link count, if there is one
abbrev pub with_links : List ℕ → List ℕ → List ℕ → Option (List ℕ) → List ℕ
    → Result Record RecordWhy
with_links letter device inode links rest =
    label_then letter device inode links (front is_field_space rest) (behind is_field_space rest)

abbrev pub with_count : List ℕ → List ℕ → List ℕ → List ℕ → Option (List ℕ)
    → Result Record RecordWhy
with_count letter device inode count None = Err MissingField
with_count letter device inode count (Some rest) =
    with_links letter device inode (Some count) rest

abbrev pub with_rest : Format → List ℕ → List ℕ → List ℕ → List ℕ → Result Record RecordWhy
with_rest One letter device inode rest = with_links letter device inode None rest
with_rest Two letter device inode rest =
    with_count letter device inode (front is_field_space rest) (behind is_field_space rest)

abbrev pub inode_then : Format → List ℕ → List ℕ → List ℕ → Option (List ℕ)
    → Result Record RecordWhy
inode_then format letter device inode None = Err MissingField
inode_then format letter device inode (Some rest) = with_rest format letter device inode rest

abbrev pub with_device : Format → List ℕ → List ℕ → Option (List ℕ) → Result Record RecordWhy
with_device format letter device None = Err MissingField
with_device format letter device (Some rest) =
    inode_then format letter device (front is_field_space rest) (behind is_field_space rest)

abbrev pub letter_then : Format → List ℕ → Option (List ℕ) → Result Record RecordWhy
letter_then format letter None = Err MissingField
letter_then format letter (Some rest) =
    with_device format letter (front is_field_space rest) (behind is_field_space rest)

-- the record that the bytes before a NUL spell: cut at the first spaces, the path is the rest
unfoldable pub record_of : Format → List ℕ → Result Record RecordWhy
record_of format bytes = letter_then format (front is_field_space bytes)
    (behind is_field_space bytes)

abbrev pub is_nul : ℕ → Bool
is_nul b = b == NUL

-- the pieces between the NULs, each with whether it has its NUL; an empty last one is none
abbrev pub with_ends : List (List ℕ) → List (List ℕ × Bool)
with_ends [] = []
with_ends ([] ∷ []) = []
with_ends ((b ∷ bs) ∷ []) = (b ∷ bs, false) ∷ []
with_ends (piece ∷ next ∷ pieces) = (piece, true) ∷ with_ends (next ∷ pieces)

abbrev pub path_pieces : List ℕ → List (List ℕ × Bool)
path_pieces bytes = with_ends (slice_split is_nul bytes)

-- a record outside its grammar is refused by its number
abbrev pub numbered : ℕ → Result Record RecordWhy → Result Record RecordsFault
numbered number (Ok found) = Ok found
numbered number (Err why) = Err (Refused number why)

abbrev pub record_ended : Format → ℕ → List ℕ → Bool → Result Record RecordsFault
record_ended format number bytes false = Err (Unended number)
record_ended format number bytes true = numbered number (record_of format bytes)

-- what the piece with this number gives: too many first, then the end, then the grammar
unfoldable pub meaning : Format → ℕ → ℕ → List ℕ → Bool → Result Record RecordsFault
meaning format most number bytes is_ended =
    if nat_lt most number then Err TooMany else record_ended format number bytes is_ended

-- a first record before others; the first refusal decides
abbrev pub onto : Result Record RecordsFault → Result (List Record) RecordsFault
    → Result (List Record) RecordsFault
onto (Err why) rest = Err why
onto (Ok first) (Err why) = Err why
onto (Ok first) (Ok rest) = Ok (first ∷ rest)

-- all records of the pieces, of which the first has this number, or the first refusal
abbrev pub all_from : Format → ℕ → ℕ → List (List ℕ × Bool) → Result (List Record) RecordsFault
all_from format most number [] = Ok []
all_from format most number (piece ∷ pieces) =
    onto (meaning format most number piece.0 piece.1) (all_from format most (number + 1) pieces)

unfoldable pub records_from : Format → ℕ → ℕ → List ℕ → Result (List Record) RecordsFault
records_from format most number bytes = all_from format most number (path_pieces bytes)

-- the records that the bytes spell, or what is wrong with the first bad one
abbrev pub records_of : Format → RecordLimits → List ℕ → Result (List Record) RecordsFault
records_of format limits bytes = records_from format limits.records 1 bytes
