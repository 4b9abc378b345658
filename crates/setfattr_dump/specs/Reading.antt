-- What the lines of a dump say, as setfattr(1) reads it with --restore: how it is computed.
use Rattle.std.specs.Prelude.{ℕ, ◌+◌, Bool, false, ◌==◌, List, [], ◌∷◌, ◌++◌, length, drop, Option}
use Rattle.std.specs.Prelude.{Some, None, is_some, Result, Ok, Err, if◌then◌else◌}
use Rattle.label_base.specs.Cut.{front, behind}
use Rattle.label_base.specs.Escape.{unescaped}
use Rattle.label_base.specs.Lines.{lines_of, with_front}
use Rattle.label_base.specs.Text.{is_nonempty}
use Rattle.file_paths.specs.Path.{Path, path_or}
use Rattle.file_paths.specs.declared.path.TheConstants.{SLASH}
use Rattle.label_base.specs.declared.lines.RefusedLine.{RefusedLine}
use Rattle.setfattr_dump.specs.declared.dump.Attr.{Attr}
use Rattle.setfattr_dump.specs.declared.dump.Section.{Section}
use Rattle.setfattr_dump.specs.declared.fault.DumpWhy.{DumpWhy}
use Rattle.setfattr_dump.specs.declared.fault.DumpWhy.TheVariants.{NoSection, BadName, NoValue}
use Rattle.setfattr_dump.specs.declared.line.Said.{Said}
use Rattle.setfattr_dump.specs.declared.line.Said.TheVariants.{Ends, Names, Gives}
use Rattle.setfattr_dump.specs.declared.marks.TheConstants.{EQUALS, FILE_MARK}
use Rattle.setfattr_dump.specs.Texts.{is_file_line}
use Rattle.setfattr_dump.specs.Values.{value_or_bad, value_read}

-- ---- one line

abbrev pub has_slash : List ℕ → Bool
has_slash [] = false
has_slash (b ∷ bs) = b == SLASH

-- with a slash before it, if it has none
abbrev pub with_slash : List ℕ → List ℕ
with_slash bytes = if has_slash bytes then bytes else SLASH ∷ bytes

abbrev pub spelled_path : Option (List ℕ) → Result Path DumpWhy
spelled_path None = Err BadName
spelled_path (Some bytes) = path_or BadName (with_slash bytes)

-- the path that a name with escapes spells
unfoldable pub name_read : List ℕ → Result Path DumpWhy
name_read name = spelled_path (unescaped name)

abbrev pub value_then : List ℕ → Result (List ℕ) DumpWhy → Result Attr DumpWhy
value_then key (Ok value) = Ok (record { key = key; value = value })
value_then key (Err why) = Err why

abbrev pub attr_given : List ℕ → Option (List ℕ) → Result Attr DumpWhy
attr_given key None = Err NoValue
attr_given key (Some given) =
    if is_nonempty key then value_then key (value_or_bad (value_read given)) else Err NoValue

abbrev pub is_equals : ℕ → Bool
is_equals b = b == EQUALS

-- the attribute that a line gives: a key up to the first =, and a value behind it
unfoldable pub attr_read : List ℕ → Result Attr DumpWhy
attr_read line = attr_given (front is_equals line) (behind is_equals line)

abbrev pub names : Result Path DumpWhy → Result Said DumpWhy
names (Ok name) = Ok (Names name)
names (Err why) = Err why

abbrev pub attr_said : Result Attr DumpWhy → Result Said DumpWhy
attr_said (Ok attr) = Ok (Gives attr)
attr_said (Err why) = Err why

-- what a line says where a section is open, or none is
unfoldable pub line_read : Bool → List ℕ → Result Said DumpWhy
line_read is_open [] = Ok Ends
line_read is_open (b ∷ bs) =
    if is_file_line (b ∷ bs) then names (name_read (drop (length FILE_MARK.now) (b ∷ bs)))
    else if is_open then attr_said (attr_read (b ∷ bs))
    else Err NoSection

-- ---- all lines

-- the section that is open, if one is
abbrev pub open_section : Option Path → List Attr → List Section
open_section None attrs = []
open_section (Some name) attrs = record { name = name; attrs = attrs } ∷ []

-- the sections, or the first refused line
abbrev pub SectionsOrRefusal : Type 0
SectionsOrRefusal = Result (List Section) (RefusedLine DumpWhy)

-- goes on with what the line with this number says; an open section has this name and these
-- attributes
abbrev pub said_then : ℕ → Option Path → List Attr → Result Said DumpWhy
    → (Option Path → List Attr → SectionsOrRefusal)
    → SectionsOrRefusal
said_then number name attrs (Err why) next = Err (record { number = number; why = why })
said_then number name attrs (Ok Ends) next = with_front (open_section name attrs) (next None [])
said_then number name attrs (Ok (Names other)) next =
    with_front (open_section name attrs) (next (Some other) [])
said_then number name attrs (Ok (Gives attr)) next = next name (attrs ++ attr ∷ [])

-- the sections that lines give, the first of which has this number, or the first that is refused
unfoldable pub sections_from : ℕ → Option Path → List Attr → List (List ℕ) → SectionsOrRefusal
sections_from number name attrs [] = Ok (open_section name attrs)
sections_from number name attrs (line ∷ lines) =
    said_then number name attrs (line_read (is_some name) line)
    (λ other given. sections_from (number + 1) other given lines)

-- the sections of a dump, or its first refused line
abbrev pub dump_read : List ℕ → SectionsOrRefusal
dump_read bytes = sections_from 1 None [] (lines_of bytes)
